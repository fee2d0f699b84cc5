-- `address::write_top` meets its contract: what begins the address is written, and what lies below after it.
use Rattle.address.specs.Starting.{InFlash, InCopy, Starts}
use Rattle.address.proofs.Written.{two_words, one_word, alone_written, flash_writes, flash_written, copy_writes, copy_fits, copy_written}
use lib.ListN.{length, set, length-set}
use borrow.Rule.Slice.PartMut.{put_mid}
use Prim.Native.Nat.{◌+◌, ◌-◌}
use native.Mathlib.Omega.{arith}
use mathlib.Core.Path.{ap, subst, ◌∙◌}
use Rattle.address.proofs.write_top.Goals as goal

pub bounds-out-1 : goal.bounds-out-1
bounds-out-1 c =
    two_words c.args.head.now c.args.e.now c.args.a.now c.args.n c.args.out.now c.requires.1

pub bounds-out-1-in-Flash : goal.bounds-out-1-in-Flash
bounds-out-1-in-Flash c =
    two_words c.args.head.now c.args.e.now c.args.a.now c.args.n c.args.out.now c.requires.1

pub slice_bounds-write-count : goal.slice_bounds-write-count
slice_bounds-write-count c =
    rw (length-set c.args.out.now 1 c.in-Flash.p) (two_words c.args.head.now c.args.e.now c.args.a.now c.args.n c.args.out.now c.requires.1)

pub slice_bounds-write-start : goal.slice_bounds-write-start
slice_bounds-write-start c =
    rw (length-set c.args.out.now 1 c.in-Flash.p) (two_words c.args.head.now c.args.e.now c.args.a.now c.args.n c.args.out.now c.requires.1)

pub write-requires : goal.write-requires
write-requires c =
    let flashed : let A = c.args in let u = c.in-Flash in
    InFlash A.head.now A.e.now A.a.now A.n u.p u.under u.j =
    let A = c.args in
    subst (Starts A.head.now A.e.now A.a.now A.n) c.in-Flash.is c.start_of.ensures in
    flash_writes c.args.head.now c.args.e.now c.args.a.now c.args.n c.args.out.now c.requires.1 _ _ _ flashed

pub bounds-out-0 : goal.bounds-out-0
bounds-out-0 c =
    one_word c.args.head.now c.args.e.now c.args.a.now c.args.n c.args.out.now c.requires.1

pub slice_bounds-write-count-in-Copy : goal.slice_bounds-write-count-in-Copy
slice_bounds-write-count-in-Copy c =
    rw (length-set c.args.out.now 0 c.in-Copy.copy) (one_word c.args.head.now c.args.e.now c.args.a.now c.args.n c.args.out.now c.requires.1)

pub slice_bounds-write-start-in-Copy : goal.slice_bounds-write-start-in-Copy
slice_bounds-write-start-in-Copy c =
    rw (length-set c.args.out.now 0 c.in-Copy.copy) (one_word c.args.head.now c.args.e.now c.args.a.now c.args.n c.args.out.now c.requires.1)

pub write-requires-in-Copy : goal.write-requires-in-Copy
write-requires-in-Copy c =
    let copied : let A = c.args in let u = c.in-Copy in
    InCopy A.head.now A.e.now A.a.now A.n u.copy u.b u.under u.j =
    let A = c.args in
    subst (Starts A.head.now A.e.now A.a.now A.n) c.in-Copy.is c.start_of.ensures in
    copy_writes c.args.head.now c.args.e.now c.args.a.now c.args.n c.args.out.now c.requires.1 _ _ _ _ copied

pub overflow_add-b : goal.overflow_add-b
overflow_add-b c =
    let copied : let A = c.args in let u = c.in-Copy in
    InCopy A.head.now A.e.now A.a.now A.n u.copy u.b u.under u.j =
    let A = c.args in
    subst (Starts A.head.now A.e.now A.a.now A.n) c.in-Copy.is c.start_of.ensures in
    omega (arith, copy_fits c.args.head.now c.args.e.now c.args.a.now c.args.n c.args.out.now c.requires.1 _ _ _ _ copied _ c.write-in-Copy.ensures _ c.word_at-first.ensures)

pub returns-in-Alone : goal.returns-in-Alone
returns-in-Alone c =
    let A = c.args in alone_written c.args.head.now c.args.e.now c.args.a.now c.args.n c.args.out.now c.requires.1 _
    (subst (Starts A.head.now A.e.now A.a.now A.n) c.in-Alone.is c.start_of.ensures)

pub shape_of-out-in-Flash : goal.shape_of-out-in-Flash
shape_of-out-in-Flash c =
    omega (arith, length-set c.args.out.now 1 c.in-Flash.p)

pub returns-in-Flash : goal.returns-in-Flash
returns-in-Flash c =
    let flashed : let A = c.args in let u = c.in-Flash in
    InFlash A.head.now A.e.now A.a.now A.n u.p u.under u.j =
    let A = c.args in
    subst (Starts A.head.now A.e.now A.a.now A.n) c.in-Flash.is c.start_of.ensures in
    flash_written c.args.head.now c.args.e.now c.args.a.now c.args.n c.args.out.now c.requires.1 _ _ _ flashed _ c.write.ensures

pub shape_of-out-in-Copy : goal.shape_of-out-in-Copy
shape_of-out-in-Copy c =
    let o = c.args.out.now in
    let u = c.in-Copy in
    let l = put_mid 1 (length (set o 0 u.copy) - 1) (set o 0 u.copy) c.write-in-Copy.new.out in
    omega (arith, ap length c.put.ensures, length-set l 1 (u.b + c.word_at-first.result), length-set o 0 u.copy)

pub returns-in-Copy : goal.returns-in-Copy
returns-in-Copy c =
    let copied : let A = c.args in let u = c.in-Copy in
    InCopy A.head.now A.e.now A.a.now A.n u.copy u.b u.under u.j =
    let A = c.args in
    subst (Starts A.head.now A.e.now A.a.now A.n) c.in-Copy.is c.start_of.ensures in
    c.put.ensures ∙ copy_written c.args.head.now c.args.e.now c.args.a.now c.args.n c.args.out.now c.requires.1 _ _ _ _ copied _ c.write-in-Copy.ensures _ c.word_at-first.ensures
