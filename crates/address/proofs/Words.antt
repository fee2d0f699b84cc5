-- The addresses of an entry of the top level, by its role.
-- Assumes nothing.
use Prim.Native.Nat.{ℕ, suc, ◌+◌, ◌*◌, ◌/◌, ◌%◌, ◌<◌}
use mathlib.Core.Path.{◌≡◌, ap, ◌∙◌}
use mathlib.Core.Bool.{true}
use mathlib.Core.List.{List, [], ◌∷◌, map}
use native.Mathlib.Nat.{mod-lt}
use native.Mathlib.Omega.{arith}
use lib.ListN.{get_or, replicate, length-map}
use Rattle.base.proofs.Run.{nth_map, nth_copies, factor_pos}
use Rattle.sheet.specs.Records.{entry_of, role_of}
use Rattle.sheet.specs.Containers.{block_of, body_of, top_of}
use Rattle.sheet.specs.Valid.{size_as, size_of, valid}
use Rattle.sheet.specs.declared.Entry.{Entry}
use Rattle.sheet.specs.declared.Role.TheVariants.{Draws, Uses, Repeats}
use Rattle.law_addresses.specs.Chains.{entry_chains, chains}
use Rattle.law_addresses.specs.Addresses.{raised, addresses_as, entry_addresses}
use Rattle.law_addresses.proofs.Length.{used_block, length_plain, length_chains, length_body}
use Rattle.law_addresses.proofs.Undo.{chain_draws, chain_uses, size_draws, size_uses}

module _ (head e a : List ℕ) (v : valid head e a ≡ true) (i : ℕ) (l : i < (top_of head).len) (b : ℕ) where
  abbrev entry : Entry
  entry = entry_of e ((top_of head).first + i)

  pub draws_words : role_of entry.kind ≡ Draws → get_or (entry_addresses e a b entry) 0 [] ≡ 0 ∷ suc b ∷ replicate 8 0
  unfolding entry_addresses addresses_as
  draws_words q =
      let long = length_plain head e a v i l b (λ r. let z : ◌≡◌ {A = ℕ} 0 1 = cc in omega arith) in
      let size = size_draws e a 8 (suc b) entry q in
      ap (λ role. get_or (addresses_as role e a b entry) 0 []) q
      ∙ nth_map (λ c. 0 ∷ c) (entry_chains a 8 (chains e a 8) (suc b) entry) 0 [] [] (omega arith)
      ∙ ap (λ c. 0 ∷ c) (chain_draws e a 8 (suc b) entry q)

  pub uses_words : role_of entry.kind ≡ Uses → (j : ℕ) → j < size_of a entry →
      get_or (entry_addresses e a b entry) j [] ≡ 0 ∷ suc b ∷ get_or (chains e a 8 (block_of a entry.who)) j []
  unfolding entry_addresses addresses_as
  uses_words q j m =
      let long = length_plain head e a v i l b (λ r. let z : ◌≡◌ {A = ℕ} 0 1 = cc in omega arith) in
      let size = size_uses e a 8 (suc b) entry q in
      let u = used_block head e a v i l q in
      let eight = u.1 in
      let all = length_chains head e a v 8 (block_of a entry.who) u.0 (omega arith) eight in
      ap (λ role. get_or (addresses_as role e a b entry) j []) q
      ∙ nth_map (λ c. 0 ∷ c) (entry_chains a 8 (chains e a 8) (suc b) entry) j [] [] (omega arith)
      ∙ ap (λ c. 0 ∷ c) (chain_uses e a 8 (suc b) entry q j (omega arith))

  pub size_repeats : role_of entry.kind ≡ Repeats → size_of a entry ≡ entry.sx * entry.sy * entry.count
  unfolding size_of size_as
  size_repeats q = rw q (omega arith)

  pub copy_words : role_of entry.kind ≡ Repeats → (j : ℕ) → j < size_of a entry →
      get_or (entry_addresses e a b entry) j []
      ≡ (j / entry.count + 1) ∷ raised b (get_or (chains e a 9 (body_of entry)) (j % entry.count) [])
  unfolding entry_addresses addresses_as
  copy_words q j m =
      let size = size_repeats q in
      let long = length_body head e a v i l q in
      let inside : j < entry.sx * entry.sy * entry.count = omega arith in
      let some = factor_pos j (entry.sx * entry.sy) entry.count inside in
      let low = mod-lt j some in
      let one : 1 + j / entry.count ≡ j / entry.count + 1 = omega arith in
      ap (λ role. get_or (addresses_as role e a b entry) j []) q
      ∙ nth_copies (λ copy. map (λ c. copy ∷ raised b c) (chains e a 9 (body_of entry))) entry.count 1 (entry.sx * entry.sy)
      (λ _ _. length-map (chains e a 9 (body_of entry)) _ ∙ long) [] j inside
      ∙ nth_map (λ c. (1 + j / entry.count) ∷ raised b c) (chains e a 9 (body_of entry)) (j % entry.count) [] [] (omega arith)
      ∙ ap (λ x. x ∷ raised b (get_or (chains e a 9 (body_of entry)) (j % entry.count) [])) one
