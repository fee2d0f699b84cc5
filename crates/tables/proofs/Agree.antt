-- A search goes by the links alone: where two tables agree on these, it comes to the same records and ends at the same link.
-- Assumes nothing.
use Prim.Native.Nat.{ℕ, zero, suc, ◌*◌, ◌≤◌, ◌<◌}
use mathlib.Core.Path.{◌≡◌, refl, ap, ◌∙◌}
use mathlib.Core.Bool.{Bool, true, false}
use mathlib.Core.List.{List}
use native.Mathlib.Omega.{arith}
use lib.Dec.{eqb}
use lib.ListN.{length}
use borrow.Author.Tests.{eqb-false}
use Rattle.index.specs.Tree.{record_width, bits_above, link_of, next, last_link}
use Rattle.index.specs.Indexed.{Leads, here, on, Indexed}

module _ (s t : List ℕ) {used : ℕ} {key_of : ℕ → ℕ} (links : (i key : ℕ) → i < used → next t i key ≡ next s i key) (o : Indexed s key_of used) where
  leads_agree : {key i j : ℕ} → i < used → Leads s key i j → Leads t key i j
  leads_agree l here = here
  leads_agree {key} {i} {j} l (on h m) =
      let e = links i key l in
      let p : 0 < next t i key = rw e h in
      let q : Leads t (bits_above key) (next t i key) j = rw e (leads_agree (o.later i key l h).1 m) in
      on {key = key} {i = i} {j = j} p q

  pub indexed_agree : (key_of' : ℕ → ℕ) → used * record_width ≤ length t → ((j : ℕ) → j < used → key_of j ≡ key_of' j) → Indexed t key_of' used
  indexed_agree key_of' room same = record {
    inside = room;
    later = λ i key l h. rw (links i key l) (o.later i key l (rw (links i key l) at h));
    found = λ j l. rw (← same j l) (leads_agree (omega arith) (o.found j l));
  }

  last_agree : (n i key : ℕ) → i < used → last_link t n i key ≡ last_link s n i key
  unfolding last_link
  last_agree zero i key l = refl
  last_agree (suc n) i key l =
      ap (λ (m : ℕ). elim (eqb m 0) [ true ↦ link_of i key | false ↦ last_link t n m (bits_above key) ]) (links i key l)
      ∙ go (eqb (next s i key) 0) refl (λ p. last_agree n (next s i key) (bits_above key) (o.later i key l p).1)
    where
      go : (b : Bool) → eqb (next s i key) 0 ≡ b → (0 < next s i key → last_link t n (next s i key) (bits_above key) ≡ last_link s n (next s i key) (bits_above key)) →
          ◌≡◌ {A = ℕ} (elim b [ true ↦ link_of i key | false ↦ last_link t n (next s i key) (bits_above key) ])
          (elim b [ true ↦ link_of i key | false ↦ last_link s n (next s i key) (bits_above key) ])
      go true e rest = refl
      go false e rest = rest (let q = eqb-false (next s i key) 0 e in omega arith)

  pub end_agree : (key n : ℕ) → n ≤ used → last_link t n 0 key ≡ last_link s n 0 key
  unfolding last_link
  end_agree key zero l = refl
  end_agree key (suc n) l = last_agree (suc n) 0 key (omega arith)
