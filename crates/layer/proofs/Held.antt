-- The attributes at a command are what the commands before it say; and what is said with one command more.
-- Assumes nothing.
use Prim.Native.Nat.{ℕ, ◌<◌, ◌≤◌}
use Prim.Native.String.{String}
use mathlib.Core.Path.{◌≡◌, refl, sym, ap, ◌∙◌}
use mathlib.Core.Bool.{Bool, true, false}
use mathlib.Core.List.{List, [], ◌∷◌, ◌++◌}
use native.Mathlib.Omega.{arith}
use borrow.Author.Tests.{eq-eqb, ne_eqb}
use lib.Dec.{eqb}
use lib.ListN.{take, drop}
use Rattle.base.specs.Choose.{pick}
use Rattle.book.specs.declared.Book.{Book}
use Rattle.text.specs.Text.{text}
use Rattle.sequence.specs.Commands.{commands_of}
use Rattle.sequence.specs.declared.Placed.{Placed}
use Rattle.attribute_call.specs.Sayings.{saying_of, taken_at}
use Rattle.attribute_call.specs.declared.Kind.{Kind}
use Rattle.attribute_call.specs.declared.Kind.TheVariants as kind
use Rattle.attribute_call.specs.declared.Saying.{Saying}
use Rattle.attribute_call.specs.declared.Saying.TheVariants.{Silent, Deletes, Sets}
use Rattle.attribute_call.specs.Attribute.{before, from_on, later, nothing, heard_with, heard_in, held, answer_at, answer_for, answer_in, attribute_of}
use Rattle.attribute_call.specs.declared.Heard.{Heard}
use Rattle.law_components.specs.Values as values
use Rattle.law_components.specs.Values.{Value}
use Rattle.law_components.specs.Parts.{Texts}
use Rattle.layer.specs.Attributes.{value_of, object_at, texts_at}
use Rattle.layer.specs.Said.{said_in, said_by, value_said, texts_by, said_object}

-- all of these commands begin before a place
pub data Below (p : ℕ) : List Placed → Type 0 where
  none : Below p []
  one : {c : Placed} {cs : List Placed} → c.place < p → Below p cs → Below p (c ∷ cs)

pub below_more : {p q : ℕ} {cs : List Placed} → p ≤ q → Below p cs → Below q cs
below_more l none = none
below_more l (one {c = c} m b) = one {c = c} (omega arith) (below_more l b)

pub below_snoc : {p : ℕ} {cs : List Placed} (c : Placed) → Below p cs → c.place < p → Below p (cs ++ (c ∷ []))
below_snoc c none l = one {c = c} l none
below_snoc c (one {c = d} m b) l = one {c = d} m (below_snoc c b l)

module _ (c : Placed) (post : List Placed) where
  before_is : {pre : List Placed} → Below c.place pre → before c.place (pre ++ (c ∷ post)) ≡ pre
  unfolding before
  before_is none = rw (eq-eqb c.place c.place refl, before)
  before_is (one {c = d} {cs = cs} l b) = rw (ne_eqb d.place c.place (λ (e : d.place ≡ c.place). omega arith), before) (ap (λ l. d ∷ l) (before_is b))

  from_is : {pre : List Placed} → Below c.place pre → from_on c.place (pre ++ (c ∷ post)) ≡ c ∷ post
  unfolding from_on
  from_is none = rw (eq-eqb c.place c.place refl, from_on)
  from_is (one {c = d} {cs = cs} l b) = rw (ne_eqb d.place c.place (λ (e : d.place ≡ c.place). omega arith), from_on) (from_is b)

heard_said : (book : Book) (file : List ℕ) (kind : Kind) (name : List ℕ) (h : Heard) (cs : List Placed) → (heard_in book file kind name h cs).said ≡ said_in file kind name h.said cs
unfolding heard_in heard_with said_in
heard_said book file kind name h [] = refl
heard_said book file kind name h (c ∷ cs) = heard_said book file kind name (heard_with book file kind name h c) cs

said_append : (file : List ℕ) (kind : Kind) (name : List ℕ) (s : Saying) (cs ds : List Placed) →
    said_in file kind name s (cs ++ ds) ≡ said_in file kind name (said_in file kind name s cs) ds
unfolding said_in
said_append file kind name s [] ds = refl
said_append file kind name s (c ∷ cs) ds = said_append file kind name (later s (saying_of file kind name c)) cs ds

pub said_more : (file : List ℕ) (kind : Kind) (name : List ℕ) (cs : List Placed) (c : Placed) →
    said_by file kind name (cs ++ (c ∷ [])) ≡ later (said_by file kind name cs) (saying_of file kind name c)
unfolding said_in
said_more file kind name cs c = said_append file kind name Silent cs (c ∷ [])

pub said_value : (file : List ℕ) (s : Saying) → value_of file (held s) ≡ value_said file s
unfolding value_of held value_said
said_value file Silent = refl
said_value file Deletes = refl
said_value file (Sets place length) = refl

-- a command of a file without fault, after these commands
module _ (book : Book) (file : List ℕ) (pre : List Placed) (c : Placed) (post : List Placed) (order : (commands_of book file).commands ≡ pre ++ (c ∷ post))
    (sound : (commands_of book file).fault.number ≡ 0) (below : Below c.place pre) where
  held_at : (name : List ℕ) → attribute_of book file kind.Object c.place name ≡ held (said_by file kind.Object name pre)
  unfolding attribute_of answer_in answer_for answer_at taken_at pick
  held_at name = rw (eq-eqb _ 0 sound, order, before_is c post below, from_is c post below) (ap held (heard_said book file kind.Object name nothing pre))

  object_at_lem : (name : String) → object_at book file c.place name ≡ said_object file pre name
  unfolding object_at
  object_at_lem name = ap (value_of file) (held_at (text name)) ∙ said_value file (said_by file kind.Object (text name) pre)

  pub texts_at_lem : texts_at book file c.place ≡ texts_by file pre
  unfolding texts_at texts_by
  texts_at_lem = λ i. record {
    component = object_at_lem ".C" i;
    rotation = object_at_lem ".CRot" i;
    value = object_at_lem ".CVal" i;
    footprint = object_at_lem ".CFtp" i;
    mount = object_at_lem ".CMnt" i;
    pin = object_at_lem ".P" i;
  }
