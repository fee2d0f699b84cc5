-- What is known before the first command, and that what is known after the last is what the pass leaves.
-- Assumes nothing.
use Rattle.std.specs.Prelude.{Err, Ok, Result, ℕ}
use Prim.Native.Nat.{ℕ, ◌+◌, ◌*◌, ◌<◌}
use mathlib.Core.Path.{◌≡◌, refl, sym, ap, ◌∙◌, subst}
use mathlib.Core.Bool.{Bool, true, false}
use mathlib.Core.List.{List, []}
use native.Mathlib.Omega.{arith}
use lib.ListN.{get_or}
use Rattle.text.specs.Pieces.{parted}
use Rattle.base.specs.Bytes.{same_bytes}
use Rattle.book.specs.declared.Book.{Book}
use Rattle.sequence.specs.Commands.{commands_of}
use Rattle.sequence.specs.declared.Placed.{Placed}
use Rattle.attribute_call.specs.declared.Saying.TheVariants.{Silent}
use Rattle.index.specs.Tree.{record_width}
use Rattle.index.specs.Numbers.{number_of, numbered, Numbered}
use Rattle.index.proofs.More.{numbered_none, named_none}
use Rattle.tables.proofs.Numbers.{number_new}
use Rattle.law_components.specs.Values as values
use Rattle.law_components.specs.Values.{bytes_of, field}
use Rattle.layer.specs.Attributes.{function_in, function_of, is_component_in, is_component}
use Rattle.layer.specs.Work.{operations_in, apertures_in, designators_in}
use Rattle.layer.proofs.Held as held
use Rattle.layer.specs.Said.{said_in, value_said, texts_by}
use Rattle.notes.specs.Designators as designators
use Rattle.notes.specs.Functions.{function_is, function_number}
use Rattle.notes.proofs.Fields.{nowhere_is}
use Rattle.noting.specs.Steps.{begun}
use Rattle.noting.specs.Holds.{word_at, role_number, Noted, Makes}
use Rattle.noting.specs.declared.Noting.{Noting}
use Rattle.noting.proofs.Roles.{number_found}
use Rattle.noting.proofs.Functions.{has_aperture, function_none}
use Rattle.noting.proofs.Known.{Known}
use Rattle.noting.proofs.RolesKnown.{RolesKnown}

no_command : {place : ℕ} {A : Type 0} → Makes place [] → A
no_command = elim [ ]

pub known_none : (book : Book) (file notes names roles : List ℕ) → Known book file notes names roles begun 0 []
unfolding begun operations_in apertures_in designators_in is_component_in texts_by said_in value_said function_number function_is field bytes_of parted same_bytes has_aperture
known_none book file notes names roles = record {
  operations = refl;
  settings = refl;
  apertures = refl;
  component = refl;
  few_operations = omega arith;
  few_settings = omega arith;
  few_apertures = omega arith;
  table = record { named = named_none file names; blank = λ i l. absurd (omega arith) };
  few_names = omega arith;
  numbered = numbered_none roles;
  few_roles = omega arith;
  below = held.none;
  function = refl;
  said = λ h. record {
    component = designators.nothing;
    pin = designators.nothing;
    number = nowhere_is file;
    rotation = nowhere_is file;
    value = nowhere_is file;
    footprint = nowhere_is file;
    mount = nowhere_is file;
  };
  noted = λ h g. record {
    ordered = record { inside = omega arith; rises = λ i j l m. absurd (omega arith) };
    below = λ i l. absurd (omega arith);
    means = λ i l. absurd (omega arith);
    all = λ place m. no_command m;
  };
  known = λ h. record { found = λ n e. absurd (let z : ◌≡◌ {A = ℕ} 0 1 = cc in omega arith); fresh = λ n e j l. absurd (omega arith) };
}

-- the number that is found for an aperture
module _ {file roles : List ℕ} {used : ℕ} {cs : List Placed} (t : Numbered roles used) (k : RolesKnown file roles used cs) (n : ℕ) where
  at_found : (i : ℕ) → i < used → number_of roles i ≡ n → (q : Result ℕ ℕ) → numbered roles used n ≡ q → word_at roles q ≡ get_or roles (i * record_width + 1) 0
  unfolding word_at
  at_found i l e (Ok j) f =
      let g = number_found roles used n f in
      ap (λ (x : ℕ). get_or roles (x * record_width + 1) 0) (t.distinct j i g.0 l (g.1 ∙ sym e))
  at_found i l e (Err link) f = absurd (number_new roles used n link f i l e)

  at_none : ((j : ℕ) → j < used → number_of roles j ≡ n → ⊥) → (q : Result ℕ ℕ) → numbered roles used n ≡ q → word_at roles q ≡ 0
  unfolding word_at
  at_none none (Ok j) f = let g = number_found roles used n f in absurd (none j g.0 g.1)
  at_none none (Err link) f = refl

  pub role_is : role_number roles used n ≡ function_number (function_in file n Silent cs)
  unfolding role_number function_number function_is field bytes_of parted same_bytes
  role_is = go (has_aperture n cs) refl
    where
      no_function : function_number values.none ≡ 0
      no_function = refl

      go : (b : Bool) → has_aperture n cs ≡ b → word_at roles (numbered roles used n) ≡ function_number (function_in file n Silent cs)
      go true h = let f = k.found n h in at_found f.0 f.1 f.2 (numbered roles used n) refl ∙ f.3
      go false h = at_none (k.fresh n h) (numbered roles used n) refl ∙ sym (ap function_number (function_none file n Silent cs h) ∙ no_function)

pub known_all : (book : Book) (file notes names roles : List ℕ) (n : Noting) (at : ℕ) (cs : List Placed) → (commands_of book file).commands ≡ cs →
    Known book file notes names roles n at cs → Noted book file notes names roles n
unfolding is_component function_of
known_all book file notes names roles n at cs all k = record {
  operations = k.operations ∙ ap operations_in (sym all);
  settings = k.settings ∙ ap (designators_in file) (sym all);
  apertures = k.apertures ∙ ap apertures_in (sym all);
  component = k.component ∙ ap (is_component_in file) (sym all);
  holds = λ room.
      let w = k.noted room.operations room.settings in
      record {
        table = k.table;
        ordered = w.ordered;
        means = w.means;
        all = λ place m. w.all place (subst (Makes place) all m);
        numbered = k.numbered;
        functions = λ number. role_is k.numbered (k.known room.apertures) number ∙ ap (λ (l : List Placed). function_number (function_in file number Silent l)) (sym all);
      };
}
