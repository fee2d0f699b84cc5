-- A text by where it lies in the file; and a field of an attribute's value, as commands say it one after the other.
use Rattle.std.specs.Prelude.{ℕ, ◌≤◌, ◌≡◌, List, length}
use Rattle.std.proofs.Math.Seq.{slice}
use Rattle.command.specs.declared.Span.{Span}
use Rattle.attribute_call.specs.declared.Saying.{Saying}
use Rattle.attribute_call.specs.Attribute.{later}
use Rattle.law_components.specs.Values.{field}
use Rattle.layer.specs.Said.{value_said}

pub record SpanIs (file : List ℕ) (p : Span) (s : List ℕ) : Type 0 where
  pub ordered : p.from ≤ p.to
  pub inside : p.to ≤ length file
  pub is : slice p.from p.to file ≡ s

-- field i lies at p before a command that says s, and at q after it
pub record Follows (file : List ℕ) (i : ℕ) (p q : Span) (s : Saying) : Type 0 where
  pub follows : (said : Saying) → SpanIs file p (field i (value_said file said)) → SpanIs file q (field i (value_said file (later said s)))
