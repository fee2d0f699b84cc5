use Rattle.std.proofs.Common.{◌≡◌, ◌<◌, length, sym, refl, ◌∙◌, add-one, arith, length-set, take_all, take-suc-set}
use Rattle.digest.specs.Word.{words_of}
use Rattle.digest.proofs.words_of.Goals as goal

pub loop-k-init : goal.loop-k-init
unfolding words_of
loop-k-init c = record { long = refl; so_far = refl }

pub loop-k-preserved : goal.loop-k-preserved
unfolding words_of
loop-k-preserved c =
    let l = c.loop-k in
    let inside : l.k < length l.y = omega arith in
    record {
      long = length-set l.y l.k _ ∙ l.invariant.long;
      so_far = rw (add-one l.k, take-suc-set l.y l.k _ inside, c.word_at.ensures, l.invariant.so_far);
    }

pub returns : goal.returns
returns c =
    let l = c.loop-k in
    let e : l.k ≡ 16 = omega arith in
    sym (take_all 16 l.y (omega arith)) ∙ (rw e at l.invariant.so_far)
