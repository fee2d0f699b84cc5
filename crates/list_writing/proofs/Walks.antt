-- A chain of numbers of items can be walked, and one step of the walk.
-- Assumes nothing.
use Prim.Native.Nat.{ℕ, suc, ◌+◌, ◌*◌, ◌-◌, ◌/◌, ◌≤◌, ◌<◌}
use mathlib.Core.Path.{◌≡◌, refl, sym, ap, ◌∙◌, subst}
use mathlib.Core.Bool.{Bool, true, false}
use mathlib.Core.List.{List, [], ◌∷◌, ◌++◌, append_assoc, append-nil}
use native.Mathlib.Omega.{arith}
use lib.ListN.{length, get_or}
use Rattle.law_components.specs.Parts.{Part}
use Rattle.law_components.specs.Numbers.{numbers_from, by_number}
use Rattle.law_components.specs.Chain.{link_width, Chain}
use Rattle.law_components.specs.Chain as chain
use Rattle.law_components.specs.Written.{Wrote}
use Rattle.law_components.specs.declared.Pen.{Pen}
use Rattle.law_components.proofs.Written.{behind, is_also, nothing_more}
use Rattle.list_writing.specs.Walks.{Walks, end, on, Walking}

-- all of these numbers are below
pub data Under (total : ℕ) : List ℕ → Type 0 where
  none : Under total []
  one : {k : ℕ} {ks : List ℕ} → k < total → Under total ks → Under total (k ∷ ks)

pub numbers_under : (test : Part → Bool) (i : ℕ) (ps : List Part) → Under (i + length ps) (numbers_from test i ps)
unfolding numbers_from
numbers_under test i [] = none
numbers_under test i (p ∷ ps) =
    go (test p) (subst (λ (n : ℕ). Under n (numbers_from test (suc i) ps)) (let q : suc i + length ps ≡ i + suc (length ps) = omega arith in q) (numbers_under test (suc i) ps))
  where
    go : (t : Bool) → Under (i + suc (length ps)) (numbers_from test (suc i) ps) →
        Under (i + suc (length ps)) (elim t [ true ↦ i ∷ numbers_from test (suc i) ps | false ↦ numbers_from test (suc i) ps ])
    go true u = one {k = i} (omega arith) u
    go false u = u

pub chain_walks : {pins : List ℕ} {used link total : ℕ} {ks : List ℕ} → used ≤ length pins / link_width → Under total ks → Chain pins used link ks → Walks pins total link ks
chain_walks r u chain.end = end
chain_walks r (one u us) (chain.on {j = j} l m e f c) = on {j = j} (omega arith) m e u f (chain_walks r us c)

-- ---- one step

pub record Stepped (pins : List ℕ) (total link : ℕ) (ks : List ℕ) : Type 0 where
  pub rest : List ℕ
  pub is : ks ≡ get_or pins ((link - 1) * link_width) 0 ∷ rest
  pub inside : (link - 1) * link_width + 1 < length pins
  pub below : get_or pins ((link - 1) * link_width) 0 < total
  pub less : get_or pins ((link - 1) * link_width + 1) 0 < link
  pub walks : Walks pins total (get_or pins ((link - 1) * link_width + 1) 0) rest

pub step : {pins : List ℕ} {total link : ℕ} {ks : List ℕ} → Walks pins total link ks → 0 < link → Stepped pins total link ks
step end some = absurd (omega arith)
step {pins} {total} (on {j = j} {k = k} {link = link} {ks = ks} h m e u f w) some =
    let q : suc j - 1 ≡ j = omega arith in
    record {
      rest = ks;
      is = rw q (ap (λ (x : ℕ). x ∷ ks) (sym e));
      inside = rw q h;
      below = rw (q, e) u;
      less = rw (q, f) (omega arith);
      walks = rw (q, f) w;
    }

pub walking_on : {pins : List ℕ} {total link next : ℕ} → Walking pins total link → 0 < link → next ≡ get_or pins ((link - 1) * link_width + 1) 0 → Walking pins total next
walking_on {pins} {total} w some e = let s = step w.walks some in record { numbers = s.rest; walks = subst (λ (x : ℕ). Walks pins total x s.rest) (sym e) s.walks }

-- ---- what the numbers put out, written on the way

pub record Putting (pins : List ℕ) (total : ℕ) (f : ℕ → List ℕ) (ks before now : List ℕ) (pen q : Pen) (link : ℕ) : Type 0 where
  pub rest : List ℕ
  pub walks : Walks pins total link rest
  pub done : List ℕ
  pub all : done ++ by_number f rest ≡ by_number f ks
  pub wrote : Wrote before now pen q done

module _ {pins : List ℕ} {total : ℕ} (f : ℕ → List ℕ) {ks : List ℕ} where
  pub putting_start : {room : List ℕ} {pen : Pen} {link : ℕ} → (pen.full ≡ false → pen.at ≤ length room) → Walks pins total link ks → Putting pins total f ks room room pen pen link
  putting_start {room} {pen} inside w = record { rest = ks; walks = w; done = []; all = refl; wrote = nothing_more pen inside }

  module _ {before now : List ℕ} {pen q : Pen} {link : ℕ} (w : Putting pins total f ks before now pen q link) where
    pub putting_on : 0 < link → {now' : List ℕ} {q' : Pen} {t : List ℕ} {next : ℕ} → Wrote now now' q q' t → t ≡ f (get_or pins ((link - 1) * link_width) 0) →
        next ≡ get_or pins ((link - 1) * link_width + 1) 0 → Putting pins total f ks before now' pen q' next
    unfolding by_number
    putting_on some {now'} {q'} {t} {next} g e n =
        let s = step w.walks some in
        record {
          rest = s.rest;
          walks = subst (λ (x : ℕ). Walks pins total x s.rest) (sym n) s.walks;
          done = w.done ++ t;
          all = append_assoc w.done t (by_number f s.rest) ∙ ap (λ (x : List ℕ). w.done ++ (x ++ by_number f s.rest)) e ∙ sym (ap (λ (x : List ℕ). w.done ++ by_number f x) s.is) ∙ w.all;
          wrote = behind w.wrote g;
        }

    pub putting_end : link ≡ 0 → Wrote before now pen q (by_number f ks)
    unfolding by_number
    putting_end z = is_also (sym (append-nil w.done) ∙ ap (λ (x : List ℕ). w.done ++ x) (sym (no_more w.walks z)) ∙ w.all) w.wrote
      where
        no_more : {i : ℕ} {rest : List ℕ} → Walks pins total i rest → i ≡ 0 → by_number f rest ≡ []
        no_more end z = refl
        no_more (on {j = j} h m e u g c) z = absurd (omega arith)
