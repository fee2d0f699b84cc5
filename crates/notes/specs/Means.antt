-- What a note says of the texts of an item (02, [4]; decision 583).
use Rattle.std.specs.Prelude.{ℕ, List}
use Rattle.law_components.specs.Values.{field}
use Rattle.law_components.specs.Parts.{Texts}
use Rattle.notes.specs.declared.Note.{Note}
use Rattle.notes.specs.Spans.{SpanIs}
use Rattle.notes.specs.Designators.{Denotes}

pub record Means (file : List ℕ) (name : ℕ → List ℕ) (used : ℕ) (n : Note) (t : Texts) : Type 0 where
  pub component : Denotes name used n.component t.component
  pub pin : Denotes name used n.pin t.pin
  pub number : SpanIs file n.number (field 1 t.pin)
  pub rotation : SpanIs file n.rotation (field 0 t.rotation)
  pub value : SpanIs file n.value (field 0 t.value)
  pub footprint : SpanIs file n.footprint (field 0 t.footprint)
  pub mount : SpanIs file n.mount (field 0 t.mount)
