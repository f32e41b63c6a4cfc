pub mod EqualLaws
pub mod RecoveredLaws
pub mod HeadLaws
pub mod ByteLaws
pub mod FormLaws
pub mod ShapeLaws
pub mod SoundLaws
