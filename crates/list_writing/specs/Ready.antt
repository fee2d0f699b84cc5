-- A component layer whose list can be written: no item lacks what it must have, and each designator that has a main leads to its pins.
use Rattle.std.specs.Prelude.{ℕ, ◌≡◌, List}
use Rattle.sheet.specs.declared.Container.{Container}
use Rattle.seeing.specs.Layer.{Layer}
use Rattle.passes.specs.Links.{Sound, Linked}

pub record Ready (file e a : List ℕ) (top : Container) (notes : List ℕ) (operations : ℕ) (roles : List ℕ) (roled : ℕ) (names pins : List ℕ) : Type 0 where
  pub layer : Layer e a top notes operations roles roled
  pub of : layer.file ≡ file
  pub sound : Sound layer
  pub linked : Linked layer names pins
