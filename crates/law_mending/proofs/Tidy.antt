-- The complete commands from a place on, in a state, that nothing mends: one command more before them, or M02 alone.
-- Assumes nothing.
use Prim.Native.Nat.{ℕ, ◌+◌}
use mathlib.Core.Path.{◌≡◌, refl, sym, ap, ◌∙◌}
use mathlib.Core.Bool.{Bool, true, false, not, false≢true}
use mathlib.Core.List.{List, [], ◌∷◌}
use lib.ListN.{length, drop}
use Rattle.base.specs.And.{◌and◌}
use Rattle.base.specs.Or.{◌or◌}
use Rattle.base.specs.Bytes.{same_bytes}
use Rattle.base.proofs.And.{and_l, and_r, and_i, true_and, false_and}
use Rattle.base.proofs.Lists.{same_is}
use Rattle.text.specs.Text.{text, ◌is◌}
use Rattle.book.specs.Books.{is_old}
use Rattle.book.specs.declared.Book.{Book}
use Rattle.law_reading.specs.State.{State}
use Rattle.mending.specs.Extents.{closing}
use Rattle.mending.specs.Changes.{opens, text_of, matches, follows}
use Rattle.mending.specs.Laws.{closed, end_of, twins, none, unrepeated}
use Rattle.law_mending.proofs.Header.{has_format, has_unit, First}

-- a command that opens with w is the first of its kind, and that one was given stays known
pub record Once (w : List ℕ) (has : State → Bool) (c : List ℕ) (s s' : State) : Type 0 where
  pub stays : has s ≡ true → has s' ≡ true
  pub first : opens w c ≡ true → First has s s'

pub record Passes (c : List ℕ) (s s' : State) : Type 0 where
  pub format : Once (text "%FS") has_format c s s'
  pub unit : Once (text "%MO") has_unit c s s'

-- nothing to mend: M02 stands, nothing follows it that is 18, no FS or MO is repeated, and none stands where one is given
pub record Tidy (book : Book) (file : List ℕ) (at : ℕ) (es : List (ℕ × List ℕ)) (s : State) : Type 0 where
  pub ends : closed book es ≡ true
  pub alone : unrepeated es ≡ true
  pub clean : follows (drop (end_of at es) file) ≡ false
  pub format : has_format s ≡ true → none (opens (text "%FS")) es ≡ true
  pub unit : has_unit s ≡ true → none (opens (text "%MO")) es ≡ true

-- one command more before others of which none opens with w
module _ {w : List ℕ} {has : State → Bool} {c : List ℕ} {s s' : State} (o : Once w has c s s') (at : ℕ) (es : List (ℕ × List ℕ)) (rest : has s' ≡ true → none (opens w) es ≡ true) where
  pub none_more : has s ≡ true → none (opens w) ((at, c) ∷ es) ≡ true
  unfolding none
  none_more h = go (opens w c) refl
    where
      go : (t : Bool) → opens w c ≡ t → (not (opens w c) and none (opens w) es) ≡ true
      go true e = absurd (false≢true (sym (o.first e).0 ∙ h))
      go false e = and_i _ _ (ap not e) (rest (o.stays h))

  none_behind : opens w c ≡ true → none (opens w) es ≡ true
  none_behind e = rest (o.first e).1

-- so it has no twin among them
no_match : (w c d : List ℕ) → (opens w c ≡ true → opens w d ≡ false) → (opens w c and matches w (text_of c) d) ≡ false
unfolding matches
no_match w c d h = go (opens w c) refl
  where
    go : (t : Bool) → opens w c ≡ t → (opens w c and (opens w d and same_bytes (text_of d) (text_of c))) ≡ false
    go true e = rw (e, true_and, h e, false_and) refl
    go false e = rw (e, false_and) refl

none_twins : (c : List ℕ) (es : List (ℕ × List ℕ)) → (opens (text "%FS") c ≡ true → none (opens (text "%FS")) es ≡ true) →
    (opens (text "%MO") c ≡ true → none (opens (text "%MO")) es ≡ true) → none (twins c) es ≡ true
unfolding none twins ◌or◌
none_twins c [] f m = refl
none_twins c (d ∷ es) f m =
    let a = no_match (text "%FS") c d.1 (λ e. not_is (and_l _ _ (f e))) in
    let b = no_match (text "%MO") c d.1 (λ e. not_is (and_l _ _ (m e))) in
    and_i _ _ (rw (a, b) refl) (none_twins c es (λ e. and_r _ _ (f e)) (λ e. and_r _ _ (m e)))
  where
    not_is : {t : Bool} → not t ≡ true → t ≡ false
    not_is {t = true} h = absurd (false≢true h)
    not_is {t = false} h = refl

or_right : (a : Bool) {b : Bool} → b ≡ true → (a or b) ≡ true
unfolding ◌or◌
or_right true e = refl
or_right false e = e

-- M02 opens with neither
end_opens : (book : Book) (c : List ℕ) → closing book c ≡ true → (opens (text "%FS") c ≡ false) × (opens (text "%MO") c ≡ false)
unfolding closing ◌or◌ opens same_bytes
end_opens book c e = go (c is "M02*") refl e
  where
    go : (t : Bool) → c is "M02*" ≡ t → (t or (is_old book and (c is "M2*"))) ≡ true → (opens (text "%FS") c ≡ false) × (opens (text "%MO") c ≡ false)
    go true q e = let w : c ≡ text "M02*" = same_is c (text "M02*") q in rw w (refl, refl)
    go false q e = let w : c ≡ text "M2*" = same_is c (text "M2*") (and_r (is_old book) (c is "M2*") e) in rw w (refl, refl)

module _ (book : Book) (file : List ℕ) (at start : ℕ) (c : List ℕ) where
  pub tidy_more : {es : List (ℕ × List ℕ)} {s s' : State} → Passes c s s' → Tidy book file (start + length c) es s' → Tidy book file at ((start, c) ∷ es) s
  unfolding closed unrepeated end_of
  tidy_more {es} p t = record {
    ends = or_right (closing book c) t.ends;
    alone = and_i _ _ (none_twins c es (λ o. none_behind p.format 0 es t.format o) (λ o. none_behind p.unit 0 es t.unit o)) t.alone;
    clean = t.clean;
    format = none_more p.format start es t.format;
    unit = none_more p.unit start es t.unit;
  }

  pub tidy_last : {s : State} → closing book c ≡ true → follows (drop (start + length c) file) ≡ false → Tidy book file at ((start, c) ∷ []) s
  unfolding closed unrepeated end_of none ◌or◌ ◌and◌
  tidy_last e f =
      let o = end_opens book c e in
      record { ends = rw e refl; alone = refl; clean = f; format = λ h. rw o.0 refl; unit = λ h. rw o.1 refl }
