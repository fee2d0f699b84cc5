-- `address::start_of` meets its contract: the entry found holds the item, and its role says how its address begins.
use Rattle.base.specs.Run.{sums}
use Rattle.sheet.specs.Containers.{top_of}
use Rattle.sheet.proofs.Sound.{rooms, top_sound}
use Rattle.descend.specs.Search.{Found}
use Rattle.descend.proofs.Searched.{searched}
use Rattle.descend.proofs.Answers.{asked_top}
use Rattle.law_addresses.specs.Positions.{span_at}
use Rattle.address.proofs.Begins.{begins, spans_to, alone, flash, known, copies, copy, defines_not, unknown_not}
use native.Mathlib.Omega.{arith}
use mathlib.Core.Path.{◌≡◌, sym, ◌∙◌}
use Prim.Native.Nat.{◌-◌}
use Rattle.address.proofs.start_of.Goals as goal

pub find-q-requires : goal.find-q-requires
find-q-requires c = let A = c.args in let h = c.requires in
    rw c.top_of-top.ensures (searched _ _ _ _ (asked_top A.head.now A.e.now A.a.now A.n h.ok h.inside).held)

pub entry_at-r-requires : goal.entry_at-r-requires
entry_at-r-requires c =
    let found : let A = c.args in Found A.e.now (top_of A.head.now) A.n c.find-q.result =
    rw c.top_of-top.ensures at c.find-q.ensures in
    let h = c.requires in
    omega (arith, found.high, (top_sound _ _ _ h.ok).ok.inside, (rooms _ _ _ h.ok).0)

pub spans-b-requires : goal.spans-b-requires
spans-b-requires c =
    let found : let A = c.args in Found A.e.now (top_of A.head.now) A.n c.find-q.result =
    rw c.top_of-top.ensures at c.find-q.ensures in
    rw c.top_of-top.ensures (spans_to _ _ _ _ _ c.requires found)

pub overflow_add-result : goal.overflow_add-result
overflow_add-result c =
    let found : let A = c.args in Found A.e.now (top_of A.head.now) A.n c.find-q.result =
    rw c.top_of-top.ensures at c.find-q.ensures in
    let counted : let A = c.args in
    c.spans-b.result ≡ sums (span_at A.e.now) (top_of A.head.now).first (c.find-q.result - (top_of A.head.now).first) =
    rw c.top_of-top.ensures at c.spans-b.ensures in
    omega (arith, counted, (spans_to _ _ _ _ _ c.requires found).fits)

pub block_at-requires : goal.block_at-requires
block_at-requires c =
    let found : let A = c.args in Found A.e.now (top_of A.head.now) A.n c.find-q.result =
    rw c.top_of-top.ensures at c.find-q.ensures in
    rw (c.index.ensures, c.entry_at-r.ensures) (known _ _ _ _ _ c.requires found (sym (rw c.entry_at-r.ensures at c.role_of.ensures) ∙ c.in-Uses.is))

pub overflow_sub-result : goal.overflow_sub-result
overflow_sub-result c =
    let found : let A = c.args in Found A.e.now (top_of A.head.now) A.n c.find-q.result =
    rw c.top_of-top.ensures at c.find-q.ensures in
    rw c.entry_at-r.ensures (begins _ _ _ _ _ c.requires found)

pub overflow_sub-n : goal.overflow_sub-n
overflow_sub-n c =
    let found : let A = c.args in Found A.e.now (top_of A.head.now) A.n c.find-q.result =
    rw c.top_of-top.ensures at c.find-q.ensures in
    rw c.entry_at-r.ensures (begins _ _ _ _ _ c.requires found)

pub copy_in-requires : goal.copy_in-requires
copy_in-requires c =
    let found : let A = c.args in Found A.e.now (top_of A.head.now) A.n c.find-q.result =
    rw c.top_of-top.ensures at c.find-q.ensures in
    rw c.entry_at-r.ensures (copies _ _ _ _ _ c.requires found (sym (rw c.entry_at-r.ensures at c.role_of.ensures) ∙ c.in-Repeats.is))

pub overflow_add-result-in-Draws : goal.overflow_add-result-in-Draws
overflow_add-result-in-Draws c =
    let found : let A = c.args in Found A.e.now (top_of A.head.now) A.n c.find-q.result =
    rw c.top_of-top.ensures at c.find-q.ensures in
    let counted : let A = c.args in
    c.spans-b.result ≡ sums (span_at A.e.now) (top_of A.head.now).first (c.find-q.result - (top_of A.head.now).first) =
    rw c.top_of-top.ensures at c.spans-b.ensures in
    omega (arith, counted, (spans_to _ _ _ _ _ c.requires found).fits)

pub overflow_add-result-in-Defines : goal.overflow_add-result-in-Defines
overflow_add-result-in-Defines c =
    let found : let A = c.args in Found A.e.now (top_of A.head.now) A.n c.find-q.result =
    rw c.top_of-top.ensures at c.find-q.ensures in
    let counted : let A = c.args in
    c.spans-b.result ≡ sums (span_at A.e.now) (top_of A.head.now).first (c.find-q.result - (top_of A.head.now).first) =
    rw c.top_of-top.ensures at c.spans-b.ensures in
    omega (arith, counted, (spans_to _ _ _ _ _ c.requires found).fits)

pub overflow_add-result-in-Unknown : goal.overflow_add-result-in-Unknown
overflow_add-result-in-Unknown c =
    let found : let A = c.args in Found A.e.now (top_of A.head.now) A.n c.find-q.result =
    rw c.top_of-top.ensures at c.find-q.ensures in
    let counted : let A = c.args in
    c.spans-b.result ≡ sums (span_at A.e.now) (top_of A.head.now).first (c.find-q.result - (top_of A.head.now).first) =
    rw c.top_of-top.ensures at c.spans-b.ensures in
    omega (arith, counted, (spans_to _ _ _ _ _ c.requires found).fits)

pub returns-in-Uses : goal.returns-in-Uses
returns-in-Uses c =
    let found : let A = c.args in Found A.e.now (top_of A.head.now) A.n c.find-q.result =
    rw c.top_of-top.ensures at c.find-q.ensures in
    let counted : let A = c.args in
    c.spans-b.result ≡ sums (span_at A.e.now) (top_of A.head.now).first (c.find-q.result - (top_of A.head.now).first) =
    rw c.top_of-top.ensures at c.spans-b.ensures in
    rw (c.block_at.ensures, c.index.ensures, counted, c.entry_at-r.ensures)
    (flash _ _ _ _ _ c.requires found (sym (rw c.entry_at-r.ensures at c.role_of.ensures) ∙ c.in-Uses.is))

pub returns-in-Repeats : goal.returns-in-Repeats
returns-in-Repeats c =
    let found : let A = c.args in Found A.e.now (top_of A.head.now) A.n c.find-q.result =
    rw c.top_of-top.ensures at c.find-q.ensures in
    let counted : let A = c.args in
    c.spans-b.result ≡ sums (span_at A.e.now) (top_of A.head.now).first (c.find-q.result - (top_of A.head.now).first) =
    rw c.top_of-top.ensures at c.spans-b.ensures in
    rw (c.copy_in.ensures, counted, c.entry_at-r.ensures)
    (copy _ _ _ _ _ c.requires found (sym (rw c.entry_at-r.ensures at c.role_of.ensures) ∙ c.in-Repeats.is))

pub returns-in-Draws : goal.returns-in-Draws
returns-in-Draws c =
    let found : let A = c.args in Found A.e.now (top_of A.head.now) A.n c.find-q.result =
    rw c.top_of-top.ensures at c.find-q.ensures in
    let counted : let A = c.args in
    c.spans-b.result ≡ sums (span_at A.e.now) (top_of A.head.now).first (c.find-q.result - (top_of A.head.now).first) =
    rw c.top_of-top.ensures at c.spans-b.ensures in
    rw counted (alone _ _ _ _ _ c.requires found (sym (rw c.entry_at-r.ensures at c.role_of.ensures) ∙ c.in-Draws.is))

pub returns-in-Defines : goal.returns-in-Defines
returns-in-Defines c =
    let found : let A = c.args in Found A.e.now (top_of A.head.now) A.n c.find-q.result =
    rw c.top_of-top.ensures at c.find-q.ensures in
    absurd (defines_not _ _ _ _ _ c.requires found (sym (rw c.entry_at-r.ensures at c.role_of.ensures) ∙ c.in-Defines.is))

pub returns-in-Unknown : goal.returns-in-Unknown
returns-in-Unknown c =
    let found : let A = c.args in Found A.e.now (top_of A.head.now) A.n c.find-q.result =
    rw c.top_of-top.ensures at c.find-q.ensures in
    absurd (unknown_not _ _ _ _ _ c.requires found (sym (rw c.entry_at-r.ensures at c.role_of.ensures) ∙ c.in-Unknown.is))
