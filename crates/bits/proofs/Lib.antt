pub mod SmallSets
