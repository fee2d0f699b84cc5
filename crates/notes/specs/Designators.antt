-- The designators that TO of `.C` and `.P` name, in a table of records of eight words (docs/SHEET.md, decision 209): where each lies in the file,
-- a word that says whether it has a main, and one that leads to its first pin. A value is noted by its designator's number, one more than that
-- of its record, and 0 where the name is not held.
use Rattle.std.specs.Prelude.{ℕ, suc, ◌+◌, ◌/◌, ◌≤◌, ◌<◌, ◌≡◌, List, length}
use Rattle.command.specs.declared.Span.{Span}
use Rattle.attribute_call.specs.declared.Saying.{Saying}
use Rattle.attribute_call.specs.Attribute.{later}
use Rattle.index.specs.Tree.{record_width}
use Rattle.index.specs.Names.{name_of, Named}
use Rattle.tables.specs.Macros.{macro_of}
use Rattle.law_components.specs.Values as values
use Rattle.law_components.specs.Values.{Value, field}
use Rattle.layer.specs.Work.{set_by}
use Rattle.layer.specs.Said.{value_said}
use Rattle.notes.specs.Spans.{SpanIs}
use Rattle.notes.specs.declared.Designated.{Designated}

-- a value by its designator, its first field, among the first `used`
pub data Denotes (name : ℕ → List ℕ) (used : ℕ) : ℕ → Value → Type 0 where
  nothing : Denotes name used 0 values.none
  one : {d : ℕ} {s : List ℕ} → d < used → name d ≡ field 0 (values.held s) → Denotes name used (suc d) (values.held s)

-- none has a main or a pin yet
pub record Designators (file s : List ℕ) (used : ℕ) : Type 0 where
  pub named : Named file s used
  pub blank : (i : ℕ) → i < used → ((macro_of s i).first ≡ 0) × ((macro_of s i).end ≡ 0)

-- the table with at most n more
pub record Grown (file s s' : List ℕ) (used used' n : ℕ) : Type 0 where
  pub table : Designators file s' used'
  pub long : length s' ≡ length s
  pub more : used ≤ used'
  pub few : used' ≤ used + n
  pub stays : (i : ℕ) → i < used → name_of file s' i ≡ name_of file s i

-- the designator d is among them, where there is room for one more
pub record Kept (file s s' : List ℕ) (used : ℕ) (d : List ℕ) (r : Designated) : Type 0 where
  pub grown : Grown file s s' used r.used 1
  pub is : used < length s / record_width → (b : List ℕ) → field 0 (values.held b) ≡ d → Denotes (name_of file s') r.used r.word (values.held b)

-- a value that is noted by `old` before a command that says `say` is noted by the word of r after it, where there is room
pub record Hears (file s s' : List ℕ) (used old : ℕ) (say : Saying) (r : Designated) : Type 0 where
  pub grown : Grown file s s' used r.used (set_by say)
  pub follows : used + set_by say ≤ length s / record_width → (said : Saying) → Denotes (name_of file s) used old (value_said file said) →
      Denotes (name_of file s') r.used r.word (value_said file (later said say))
