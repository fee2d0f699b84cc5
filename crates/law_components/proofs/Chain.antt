-- Chains that grow at their front: a pass over the items from the last to the first keeps, for each designator, the chain of its pins.
-- Assumes nothing.
use Prim.Native.Nat.{ℕ, suc, ◌+◌, ◌*◌, ◌≤◌, ◌<◌}
use mathlib.Core.Path.{◌≡◌, refl, sym, ap, ◌∙◌}
use mathlib.Core.Bool.{Bool, true, false}
use mathlib.Core.List.{List, ◌∷◌}
use native.Mathlib.Omega.{arith}
use lib.ListN.{length, get_or, drop}
use lib.Seq.{drop-cons}
use Rattle.law_components.specs.Parts.{Part, nothing}
use Rattle.law_components.specs.Outlines.{at}
use Rattle.law_components.specs.Numbers.{numbers_from}
use Rattle.law_components.specs.Chain.{link_width, Chain, end, on}

-- an item more, from the last to the first
module _ (test : Part → Bool) (ps : List Part) (k : ℕ) where
  pub numbers_add : k < length ps → test (at ps k) ≡ true → numbers_from test k (drop k ps) ≡ k ∷ numbers_from test (suc k) (drop (suc k) ps)
  unfolding numbers_from
  numbers_add l e = ap (numbers_from test k) (drop-cons ps k nothing l) ∙ (rw (numbers_from, e))

  pub numbers_skip : k < length ps → test (at ps k) ≡ false → numbers_from test k (drop k ps) ≡ numbers_from test (suc k) (drop (suc k) ps)
  unfolding numbers_from
  numbers_skip l e = ap (numbers_from test k) (drop-cons ps k nothing l) ∙ (rw (numbers_from, e))

-- the words of the first records stay
pub record Stays (s s' : List ℕ) (used : ℕ) : Type 0 where
  pub words : (i : ℕ) → i < used * link_width → get_or s' i 0 ≡ get_or s i 0

pub chain_stays : {s s' : List ℕ} {used link : ℕ} {ks : List ℕ} → Stays s s' used → Chain s used link ks → Chain s' (suc used) link ks
chain_stays w end = end
chain_stays w (on {j = j} l m e f c) =
    on {j = j} (omega arith) m (w.words (j * link_width) (omega arith) ∙ e) (w.words (j * link_width + 1) (omega arith) ∙ f) (chain_stays w c)

-- a chain's first link leads to one of the records
pub chain_link : {s : List ℕ} {used link : ℕ} {ks : List ℕ} → Chain s used link ks → link ≤ used
chain_link end = omega arith
chain_link (on l m e f c) = l

pub chain_grows : {s s' : List ℕ} {used link k : ℕ} {ks : List ℕ} → Stays s s' used → get_or s' (used * link_width) 0 ≡ k → get_or s' (used * link_width + 1) 0 ≡ link →
    Chain s used link ks → Chain s' (suc used) (suc used) (k ∷ ks)
chain_grows {used = used} w e f c = on {j = used} (omega arith) (chain_link c) e f (chain_stays w c)
