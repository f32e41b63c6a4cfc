use Rattle.image.specs.Form.{image_size}
use Rattle.image.proofs.form.size_of.Goals as goal

pub returns : goal.returns
unfolding image_size
returns c = c.place_of.ensures
