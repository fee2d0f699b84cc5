-- The table of designators with one more, and what is noted of a value by it.
-- Assumes nothing.
use Rattle.std.specs.Prelude.{Result, Err, Ok}
use Prim.Native.Nat.{ℕ, zero, suc, ◌+◌, ◌/◌, ◌≤◌, ◌<◌}
use mathlib.Core.Path.{◌≡◌, refl, sym, ap, ◌∙◌, subst}
use mathlib.Core.Bool.{Bool, true, false}
use mathlib.Core.List.{List}
use mathlib.Core.Logic.{⊎_elim}
use native.Mathlib.Nat.{eq-or-lt_of_le, le_of_suc-le-suc, add-zero}
use native.Mathlib.Numerals.{add-one}
use native.Mathlib.Omega.{arith}
use lib.ListN.{length, take, drop}
use lib.Seq.{slice}
use borrow.Author.Tests.{ltb-true, ltb-false}
use Rattle.base.specs.Bytes.{same_bytes}
use Rattle.base.proofs.Lists.{same_is}
use Rattle.command.specs.declared.Span.{Span}
use Rattle.index.specs.Tree.{record_width}
use Rattle.index.specs.First.{first_of}
use Rattle.index.specs.Names.{name_of, named, Named}
use Rattle.tables.specs.Added.{has_room, added}
use Rattle.tables.specs.Macros.{macro_of, macro_words}
use Rattle.tables.specs.declared.Macro.{Macro}
use Rattle.tables.proofs.Macros.{macro_named, macro_new, macro_kept}
use Rattle.attribute_call.specs.declared.Saying.{Saying}
use Rattle.attribute_call.specs.declared.Saying.TheVariants.{Silent, Deletes, Sets}
use Rattle.attribute_call.specs.Attribute.{later}
use Rattle.law_components.specs.Values as values
use Rattle.law_components.specs.Values.{Value, field}
use Rattle.layer.specs.Work.{set_by}
use Rattle.layer.specs.Said.{value_said}
use Rattle.notes.specs.Spans.{SpanIs}
use Rattle.notes.specs.Designators.{Denotes, nothing, one, Designators, Grown, Kept, Hears}
use Rattle.notes.specs.declared.Designated.{Designated}

-- a search that found a record
pub found_at : (is : ℕ → Bool) (i n x j : ℕ) → first_of is i n (Err x) ≡ Ok j → (j < i + n) × (is j ≡ true)
unfolding first_of
found_at is i zero x j e = let z : ◌≡◌ {A = ℕ} 0 1 = cc in absurd (omega arith)
found_at is i (suc n) x j e = go (is i) refl e (found_at is (suc i) n x j)
  where
    at_is : (a b : ℕ) → ◌≡◌ {A = Result ℕ ℕ} (Ok a) (Ok b) → a ≡ b
    at_is a b e = cc

    go : (t : Bool) → is i ≡ t → ◌≡◌ {A = Result ℕ ℕ} (elim t [ true ↦ Ok i | false ↦ first_of is (suc i) n (Err x) ]) (Ok j)
        → (first_of is (suc i) n (Err x) ≡ Ok j → (j < suc i + n) × (is j ≡ true)) → (j < i + suc n) × (is j ≡ true)
    go true f e rest = let q = at_is i j e in (omega arith, ap is (sym q) ∙ f)
    go false f e rest = let r = rest e in (omega (arith, r.0), r.1)

pub found_below : (file s : List ℕ) (used i : ℕ) (d : List ℕ) → named file s used d ≡ Ok i → i < used
unfolding named
found_below file s used i d e = let f = found_at (λ j. same_bytes (name_of file s j) d) 0 used _ i e in omega (arith, f.0)

pub room_is : (s : List ℕ) (used : ℕ) → has_room s used ≡ true → used < length s / record_width
unfolding has_room
room_is s used e = ltb-true used (length s / record_width) e

-- what is denoted stays so where names stay and others come
pub denotes_more : {name name' : ℕ → List ℕ} {used used' w : ℕ} {v : Value} → used ≤ used' → ((i : ℕ) → i < used → name' i ≡ name i) → Denotes name used w v → Denotes name' used' w v
denotes_more l same nothing = nothing
denotes_more l same (one {d = d} h e) = one {d = d} (omega arith) (same d h ∙ e)

module _ (file s : List ℕ) (used : ℕ) (t : Designators file s used) where
  pub grown_none : (n : ℕ) → Grown file s s used used n
  grown_none n = record { table = t; long = refl; more = omega arith; few = omega arith; stays = λ i l. refl }

  module _ (p : Span) where
    abbrev d : List ℕ
    d = slice p.from p.to file

    pub kept_found : {i : ℕ} → named file s used d ≡ Ok i → Kept file s s used d (record { word = i + 1; used = used })
    unfolding named
    kept_found {i} e =
        let f = found_at (λ j. same_bytes (name_of file s j) d) 0 used _ i e in
        let l : i < used = omega (arith, f.0) in
        record {
          grown = grown_none 1;
          is = λ room b q. rw (add-one i) (one {d = i} l (same_is (name_of file s i) d f.1 ∙ sym q));
        }

    module _ {link : ℕ} (free : named file s used d ≡ Err link) where
      abbrev m : Macro
      m = record { from = p.from; to = p.to; first = 0; end = 0 }

      abbrev s' : List ℕ
      s' = added s used link (macro_words m)

      module _ (room : used < length s / record_width) where
        name_at_lem : (l : List ℕ) (i : ℕ) (r : Macro) → macro_of l i ≡ r → name_of file l i ≡ slice r.from r.to file
        unfolding name_of macro_of
        name_at_lem l i r e = ap (λ (m : Macro). slice m.from m.to file) e

        new : name_of file s' used ≡ d
        new = name_at_lem s' used m (macro_new file s used link m room t.named free)

        kept : (i : ℕ) → i < used → name_of file s' i ≡ name_of file s i
        kept i l = name_at_lem s' i (macro_of s i) (macro_kept file s used link m room t.named free i l) ∙ sym (name_at_lem s i (macro_of s i) refl)

        blank : (i : ℕ) → i < suc used → ((macro_of s' i).first ≡ 0) × ((macro_of s' i).end ≡ 0)
        blank i l =
            ⊎_elim
            (λ (q : i ≡ used). let e = ap (macro_of s') q ∙ macro_new file s used link m room t.named free in (ap (λ (r : Macro). r.first) e, ap (λ (r : Macro). r.end) e))
            (λ (h : i < used).
            let e = macro_kept file s used link m room t.named free i h in
            let b = t.blank i h in
            (ap (λ (r : Macro). r.first) e ∙ b.0, ap (λ (r : Macro). r.end) e ∙ b.1))
            (eq-or-lt_of_le (le_of_suc-le-suc l))

        pub kept_new : {l : List ℕ} → l ≡ s' → length l ≡ length s → Kept file s l used d (record { word = used + 1; used = used + 1 })
        kept_new {l} e long = subst (λ (x : List ℕ). length x ≡ length s → Kept file s x used d (record { word = used + 1; used = used + 1 })) (sym e) made long
          where
            made : length s' ≡ length s → Kept file s s' used d (record { word = used + 1; used = used + 1 })
            made h = record {
              grown = record {
                table = record { named = rw (add-one used) (macro_named file s used link m room t.named free); blank = rw (add-one used) blank };
                long = h;
                more = omega arith;
                few = omega arith;
                stays = kept;
              };
              is = λ r b q. rw (add-one used) (one {d = used} (omega arith) (new ∙ sym q));
            }

      pub kept_full : {l : List ℕ} → has_room s used ≡ false → l ≡ s' → Kept file s l used d (record { word = 0; used = used })
      unfolding has_room added
      kept_full {l} full e =
          let same : l ≡ s = e ∙ rw full refl in
          subst (λ (x : List ℕ). Kept file s x used d (record { word = 0; used = used })) (sym same)
          (record { grown = grown_none 1; is = λ room b q. absurd (let h = ltb-false used (length s / record_width) full in omega arith) })

  -- after a command
  pub hears_silent : (old : ℕ) → Hears file s s used old Silent (record { word = old; used = used })
  unfolding later set_by
  hears_silent old = record { grown = grown_none 0; follows = λ room said h. h }

  pub hears_deletes : (old : ℕ) → Hears file s s used old Deletes (record { word = 0; used = used })
  unfolding later set_by value_said
  hears_deletes old = record { grown = grown_none 0; follows = λ room said h. nothing }

  pub hears_sets : (old at n : ℕ) {l : List ℕ} {p : Span} {r : Designated} → SpanIs file p (field 0 (values.held (take n (drop at file)))) →
      Kept file s l used (slice p.from p.to file) r → Hears file s l used old (Sets at n) r
  unfolding later set_by value_said
  hears_sets old at n w k = record { grown = k.grown; follows = λ room said h. k.is (omega arith) _ (sym w.is) }
