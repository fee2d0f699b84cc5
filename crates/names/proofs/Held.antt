-- The table of names: it holds those that were kept, and no others.
-- Assumes nothing.
use Rattle.std.specs.Prelude.{Result, Err, Ok}
use Prim.Native.Nat.{ℕ, zero, suc, ◌+◌, ◌/◌, ◌<◌}
use mathlib.Core.Path.{◌≡◌, refl, sym, ap, ◌∙◌}
use mathlib.Core.Bool.{Bool, true, false}
use mathlib.Core.List.{List, [], ◌∷◌}
use mathlib.Core.Logic.{⊎_elim}
use native.Mathlib.Nat.{eq-or-lt_of_le, le_of_suc-le-suc}
use native.Mathlib.Omega.{arith}
use lib.ListN.{length}
use lib.Seq.{slice}
use Rattle.base.specs.Or.{◌or◌}
use Rattle.base.specs.Bytes.{same_bytes}
use Rattle.base.proofs.Lists.{same_is, same_refl}
use Rattle.index.specs.First.{first_of}
use Rattle.index.specs.Names.{name_of, named, Named}
use Rattle.index.proofs.More.{named_none}
use Rattle.tables.specs.Added.{added}
use Rattle.tables.specs.Macros.{macro_of, macro_words}
use Rattle.tables.specs.declared.Macro.{Macro}
use Rattle.tables.proofs.Names.{name_new}
use Rattle.tables.proofs.Macros.{macro_named, macro_new, macro_kept}
use Rattle.law_reading.specs.Apertures.{is_among}
use Rattle.names.specs.Kept.{name_at}

pub record Held (file s : List ℕ) (used : ℕ) (names : List (List ℕ)) : Type 0 where
  pub table : Named file s used
  pub set : (i : ℕ) → i < used → is_among (name_of file s i) names ≡ true
  pub all : (name : List ℕ) → is_among name names ≡ true → ((j : ℕ) → j < used → same_bytes (name_of file s j) name ≡ true → ⊥) → ⊥

pub held_start : (file s : List ℕ) → Held file s 0 []
unfolding is_among
held_start file s = record {
  table = named_none file s;
  set = λ i l. absurd (omega arith);
  all = λ name e. let z : ◌≡◌ {A = ℕ} 0 1 = cc in absurd (omega arith);
}

-- a search that found a record
found_at : (is : ℕ → Bool) (i n x j : ℕ) → first_of is i n (Err x) ≡ Ok j → (j < i + n) × (is j ≡ true)
unfolding first_of
found_at is i zero x j e = let z : ◌≡◌ {A = ℕ} 0 1 = cc in absurd (omega arith)
found_at is i (suc n) x j e = go (is i) refl e (found_at is (suc i) n x j)
  where
    at_is : (a b : ℕ) → ◌≡◌ {A = Result ℕ ℕ} (Ok a) (Ok b) → a ≡ b
    at_is a b e = cc

    go : (t : Bool) → is i ≡ t → ◌≡◌ {A = Result ℕ ℕ} (elim t [ true ↦ Ok i | false ↦ first_of is (suc i) n (Err x) ]) (Ok j)
        → (first_of is (suc i) n (Err x) ≡ Ok j → (j < suc i + n) × (is j ≡ true)) → (j < i + suc n) × (is j ≡ true)
    go true f e rest = let q = at_is i j e in (omega arith, ap is (sym q) ∙ f)
    go false f e rest = let r = rest e in (omega (arith, r.0), r.1)

-- what is among the names stays so
among_more : (name n : List ℕ) (names : List (List ℕ)) → is_among name names ≡ true → is_among name (n ∷ names) ≡ true
unfolding is_among ◌or◌
among_more name n names e = go (same_bytes n name)
  where
    go : (t : Bool) → (t or is_among name names) ≡ true
    go true = refl
    go false = e

among_here : (n : List ℕ) (names : List (List ℕ)) → is_among n (n ∷ names) ≡ true
unfolding is_among ◌or◌
among_here n names = rw (same_refl n)

module _ (file s : List ℕ) (used : ℕ) (names : List (List ℕ)) (h : Held file s used names) where
  -- a name that is found was kept
  pub held_again : (name : List ℕ) (i : ℕ) → named file s used name ≡ Ok i → is_among name names ≡ true
  unfolding named
  held_again name i e =
      let f = found_at (λ j. same_bytes (name_of file s j) name) 0 used _ i e in
      ap (λ (n : List ℕ). is_among n names) (sym (same_is _ _ f.1)) ∙ h.set i (omega (arith, f.0))

  -- one that is not was not
  pub held_new : (name : List ℕ) (link : ℕ) → named file s used name ≡ Err link → is_among name names ≡ false
  held_new name link e = go (is_among name names) refl
    where
      go : (t : Bool) → is_among name names ≡ t → t ≡ false
      go true a = absurd (h.all name a (name_new file s used name link e))
      go false a = refl

  -- with room it holds one more
  module _ (from to link : ℕ) (room : used < length s / 8) (free : named file s used (slice from to file) ≡ Err link) where
    abbrev s' : List ℕ
    s' = added s used link (macro_words (name_at from to))

    name_at_lem : (t : List ℕ) (i : ℕ) (r : Macro) → macro_of t i ≡ r → name_of file t i ≡ slice r.from r.to file
    unfolding name_of macro_of
    name_at_lem t i r e = ap (λ (m : Macro). slice m.from m.to file) e

    new : name_of file s' used ≡ slice from to file
    new = name_at_lem s' used (name_at from to) (macro_new file s used link (name_at from to) room h.table free)

    kept : (i : ℕ) → i < used → name_of file s' i ≡ name_of file s i
    kept i l = name_at_lem s' i (macro_of s i) (macro_kept file s used link (name_at from to) room h.table free i l) ∙ sym (name_at_lem s i (macro_of s i) refl)

    among_all : (name : List ℕ) → is_among name (slice from to file ∷ names) ≡ true → ((j : ℕ) → j < suc used → same_bytes (name_of file s' j) name ≡ true → ⊥) → ⊥
    unfolding is_among ◌or◌
    among_all name a none = go (same_bytes (slice from to file) name) refl a
      where
        go : (t : Bool) → same_bytes (slice from to file) name ≡ t → (t or is_among name names) ≡ true → ⊥
        go true e a = none used (omega arith) (ap (λ (n : List ℕ). same_bytes n name) new ∙ e)
        go false e a = h.all name a (λ j l f. none j (omega arith) (ap (λ (n : List ℕ). same_bytes n name) (kept j l) ∙ f))

    pub held_more : Held file s' (suc used) (slice from to file ∷ names)
    held_more = record {
      table = macro_named file s used link (name_at from to) room h.table free;
      set = λ i l. ⊎_elim
          (λ (q : i ≡ used). ap (λ (j : ℕ). is_among (name_of file s' j) (slice from to file ∷ names)) q
          ∙ ap (λ (n : List ℕ). is_among n (slice from to file ∷ names)) new ∙ among_here (slice from to file) names)
          (λ (b : i < used). ap (λ (n : List ℕ). is_among n (slice from to file ∷ names)) (kept i b) ∙ among_more (name_of file s i) (slice from to file) names (h.set i b))
          (eq-or-lt_of_le (le_of_suc-le-suc l));
      all = among_all;
    }
