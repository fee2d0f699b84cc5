-- The digest of a message is the same wherever it is cut into runs, and is RFC 1321's.
-- Assumes nothing.
use Rattle.std.proofs.Common.{◌≡◌, ℕ, suc, ◌-◌, ◌/◌, ◌%◌, ◌^◌, List, [], ◌∷◌, ◌++◌, map, length, sym, refl, ap, ◌∙◌, zero-add, arith}
use mathlib.Core.List.{flatten}
use Rattle.digest.specs.declared.State.{State}
use Rattle.digest.specs.Md5.{tail, initial, blocks, output, md5}
use Rattle.digest.specs.Runs.{started, fed, finished, in_runs}
use Rattle.digest.specs.Text.{unbroken}
use Rattle.digest.proofs.Padding.{whole_blocks, tail_mod}
use Rattle.digest.proofs.Runs.{fed_append, fed_length, fed_blocks, length_empty}
use Rattle.digest.proofs.Text.{unbroken_append}

-- the digest of all that was fed: the padded message goes in as whole blocks
module _ (m : List ℕ) where
  abbrev padded : List ℕ
  padded = m ++ tail (length m)

  counted : (fed started m).length ≡ length m % 2 ^ 64
  unfolding started
  counted = fed_length started m (omega arith) ∙ rw zero-add

  pub finished_md5 : finished (fed started m) ≡ md5 m
  unfolding finished md5 started
  finished_md5 =
      let w = whole_blocks m in
      let n : suc (length padded / 64 - 1) ≡ length padded / 64 = omega arith in
      let all : (fed started padded).words ≡ blocks (length padded / 64) padded initial = rw n at (ap (λ s. s.words) (fed_blocks (length padded / 64 - 1) started padded refl length_empty w)) in
      let last : tail (fed started m).length ≡ tail (length m) = ap tail counted ∙ tail_mod (length m) in
      ap output (ap (λ t. (fed (fed started m) t).words) last ∙ ap (λ s. s.words) (sym (fed_append started m (tail (length m)))) ∙ all)

-- runs fed one after the other are one run
pub any_cut : (s : State) (ts : List (List ℕ)) → in_runs s ts ≡ fed s (flatten ts)
unfolding in_runs fed flatten
any_cut s [] = refl
any_cut s (t ∷ ts) = any_cut (fed s t) ts ∙ sym (fed_append s t (flatten ts))

pub any_cut_md5 : (ts : List (List ℕ)) → finished (in_runs started ts) ≡ md5 (flatten ts)
any_cut_md5 ts = ap finished (any_cut started ts) ∙ finished_md5 (flatten ts)

-- the same of a text, whose CR and LF are left out run by run
lines_joined : (ts : List (List ℕ)) → flatten (map unbroken ts) ≡ unbroken (flatten ts)
unfolding flatten unbroken
lines_joined [] = refl
lines_joined (t ∷ ts) = ap (λ l. unbroken t ++ l) (lines_joined ts) ∙ sym (unbroken_append t (flatten ts))

pub any_cut_text : (ts : List (List ℕ)) → finished (in_runs started (map unbroken ts)) ≡ md5 (unbroken (flatten ts))
any_cut_text ts = any_cut_md5 (map unbroken ts) ∙ ap md5 (lines_joined ts)
