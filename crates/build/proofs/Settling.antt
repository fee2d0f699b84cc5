-- A container turned over, and its opening entry stored: it has settled.
-- Assumes nothing.
use Prim.Native.Nat.{ℕ, suc, ◌+◌, ◌-◌, ◌*◌, ◌≤◌, ◌<◌}
use mathlib.Core.Path.{◌≡◌, sym, ap, ◌∙◌}
use mathlib.Core.List.{List, ◌++◌}
use native.Mathlib.Omega.{arith}
use lib.ListN.{length, take, replicate, length-append, length-replicate, get_or-append}
use lib.Seq.{length-take-le, get_or-take, get_or-append-add}
use Rattle.sheet.specs.Records.{entry_width, entry_of, entry_room, entry_words, stored}
use Rattle.sheet.specs.declared.Entry.{Entry}
use Rattle.sheet.proofs.Stored.{entry_stored, entry_kept, entry_same_words}
use Rattle.build.specs.Stack.{Turned}
use Rattle.build.specs.declared.Builder.{Builder}
use Rattle.build.specs.Closed.{Closes, Left, Ended}
use Rattle.build.proofs.Clearing.{zeros_read}

pub settles : (e e₁ e₂ : List ℕ) (b : Builder) (r : Entry) → Closes e b → Turned e e₁ b.closed (entry_room e - b.start) (b.high - b.start) →
    e₂ ≡ stored e₁ ((entry_room e - b.start) * entry_width) (entry_words r) → length e₂ ≡ length e₁ → Left e e₂ b r
settles e e₁ e₂ b r c t q long =
    let some = c.some in
    let below = c.below in
    let fits = c.fits in
    let first = t.as_long in
    let inside : entry_room e - b.start < entry_room e₁ = omega arith in
    let kept : (p : ℕ) → (p ≡ entry_room e - b.start → ⊥) → entry_of e₂ p ≡ entry_of e₁ p = λ p ne. rw q (entry_kept e₁ (entry_room e - b.start) r inside p ne) in
    record {
      moved = record {
        as_long = omega arith;
        same_closed = λ i l. sym (kept i (λ z. let z' : i ≡ entry_room e - b.start = z in absurd (omega arith)) ∙ t.below i l);
        same_stack = λ p l. sym (kept (entry_room e - suc p) (λ z. let z' : entry_room e - suc p ≡ entry_room e - b.start = z in absurd (omega arith)) ∙ t.above (entry_room e - suc p) (omega arith));
        settled = λ i l.
            let at : entry_room e - b.start - suc i ≡ entry_room e - suc (b.start + i) = omega arith in
            sym (kept (b.closed + i) (λ z. let z' : b.closed + i ≡ entry_room e - b.start = z in absurd (omega arith)) ∙ t.turned i l ∙ ap (entry_of e) at);
      };
      left = rw q (entry_stored e₁ (entry_room e - b.start) r inside);
    }

-- all turned over, and what lies after it cleared
pub ends : (e e₁ e₂ : List ℕ) (b : Builder) → b.closed + b.high ≤ entry_room e → Turned e e₁ b.closed (entry_room e) b.high →
    e₂ ≡ take ((b.closed + b.high) * entry_width) e₁ ++ replicate (length e₁ - (b.closed + b.high) * entry_width) 0 → Ended e e₂ b
ends e e₁ e₂ b fits t q =
    let long = t.as_long in
    let front : length (take ((b.closed + b.high) * entry_width) e₁) ≡ (b.closed + b.high) * entry_width = length-take-le _ e₁ (omega arith) in
    let same : (i : ℕ) → i < b.closed + b.high → entry_of e₂ i ≡ entry_of e₁ i = λ i l. entry_same_words e₂ e₁ i i (λ m lm.
    rw q (get_or-append (take ((b.closed + b.high) * entry_width) e₁) _ 0 (i * entry_width + m) (omega arith) ∙ get_or-take ((b.closed + b.high) * entry_width) e₁ (i * entry_width + m) 0 (omega arith))) in
    record {
      as_long = rw q (length-append (take ((b.closed + b.high) * entry_width) e₁) _ ∙ rw (front, length-replicate {A = ℕ} (length e₁ - (b.closed + b.high) * entry_width) 0) (omega arith));
      same_closed = λ i l. sym (same i (omega arith) ∙ t.below i l);
      settled = λ i l. sym (same (b.closed + i) (omega arith) ∙ t.turned i l);
      zeros = λ w l.
          let at : w ≡ length (take ((b.closed + b.high) * entry_width) e₁) + (w - (b.closed + b.high) * entry_width) = omega arith in
          rw (q, at) (get_or-append-add (take ((b.closed + b.high) * entry_width) e₁) _ (w - (b.closed + b.high) * entry_width) 0 ∙ zeros_read 0 (length e₁ - (b.closed + b.high) * entry_width) (w - (b.closed + b.high) * entry_width));
    }
