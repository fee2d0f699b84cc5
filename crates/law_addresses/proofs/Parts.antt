-- The addresses of a sheet are those of its parts.
-- Assumes nothing.
use Prim.Native.Nat.{ℕ, zero, suc, ◌+◌, ◌-◌, ◌*◌, ◌≤◌, ◌<◌}
use mathlib.Core.Path.{◌≡◌, refl, sym, ap, ◌∙◌}
use mathlib.Core.Bool.{true}
use mathlib.Core.List.{List, [], ◌∷◌, ◌++◌, map, map-map, map-append, append_assoc, append-nil}
use native.Mathlib.Nat.{zero-add, add-zero}
use native.Mathlib.Omega.{arith}
use native.Mathlib.Numerals.{add-one}
use lib.Dec.{lit≤}
use lib.ListN.{replicate}
use Rattle.base.specs.Run.{run, sums}
use Rattle.base.proofs.Run.{run_cong, sums_cong}
use Rattle.place.specs.Parts.{Parts, none, item, flashed, repeated, ◌then◌, pieces}
use Rattle.sheet.specs.Records.{entry_of, role_of}
use Rattle.sheet.specs.Containers.{block_of, body_of, top_of}
use Rattle.sheet.specs.Meaning.{repeat_of}
use Rattle.sheet.specs.Valid.{valid}
use Rattle.sheet.specs.declared.Entry.{Entry}
use Rattle.sheet.specs.declared.Container.{Container}
use Rattle.sheet.specs.declared.Role.{Role}
use Rattle.sheet.specs.declared.Role.TheVariants.{Draws, Uses, Repeats, Defines, Unknown}
use Rattle.sheet.specs.Sound.{Sound}
use Rattle.sheet.specs.Parts.{part_as, part_of, parts, sheet_parts}
use Rattle.law_addresses.specs.Positions.{stands, stands_at, span_as, span_of, span_at}
use Rattle.law_addresses.specs.Chains.{chains_as, entry_chains, before, chains}
use Rattle.law_addresses.specs.Addresses.{raised, addresses_as, entry_addresses, sheet_addresses}
use Rattle.law_addresses.specs.Marks.{Address, under, in_copy, positions, addresses_in, padded, words_of, part_addresses}
use Rattle.law_addresses.proofs.Fitting.{no_repeat}
use Rattle.law_addresses.proofs.Length.{used_low, used_block, body_nine, body_sound}

-- a function of each of what is written one after the other
map_run : {A B : Type 0} (g : A → B) (f : ℕ → List A) (p n : ℕ) → map g (run f p n) ≡ run (λ i. map g (f i)) p n
unfolding run
map_run g f p zero = refl
map_run g f p (suc n) = map-append g (f p) (run f (suc p) n) ∙ ap (λ l. map g (f p) ++ l) (map_run g f (suc p) n)

-- parts one after the other
positions_then : (ps qs : Parts) → positions (ps then qs) ≡ positions ps + positions qs
unfolding positions ◌then◌
positions_then none qs = sym (zero-add _)
positions_then (item t ps) qs = let ih = positions_then ps qs in omega arith
positions_then (flashed place m b ps) qs = let ih = positions_then ps qs in omega arith
positions_then (repeated r b ps) qs = let ih = positions_then ps qs in omega arith

positions_pieces : (f : ℕ → Parts) (p n : ℕ) → positions (pieces f p n) ≡ sums (λ i. positions (f i)) p n
unfolding positions pieces sums
positions_pieces f p zero = refl
positions_pieces f p (suc n) = positions_then (f p) (pieces f (suc p) n) ∙ ap (λ x. positions (f p) + x) (positions_pieces f (suc p) n)

addresses_then : (p : ℕ) (ps qs : Parts) → addresses_in p (ps then qs) ≡ addresses_in p ps ++ addresses_in (positions ps + p) qs
unfolding addresses_in positions ◌then◌
addresses_then p none qs = rw (zero-add p)
addresses_then p (item t ps) qs =
    let on : positions ps + suc p ≡ suc (positions ps) + p = omega arith in
    ap (λ l. record { copy = 0; chain = p ∷ [] } ∷ l) (addresses_then (suc p) ps qs ∙ rw on)
addresses_then p (flashed place m b ps) qs =
    let on : positions ps + suc p ≡ suc (positions ps) + p = omega arith in
    let ws = map (under p) (addresses_in 1 b) in
    ap (λ l. ws ++ l) (addresses_then (suc p) ps qs ∙ rw on) ∙ sym (append_assoc ws (addresses_in (suc p) ps) _)
addresses_then p (repeated r b ps) qs =
    let on : positions ps + (positions b + p) ≡ positions b + positions ps + p = omega arith in
    let ws = run (λ n. map (in_copy n) (addresses_in p b)) 1 (r.nx * r.ny) in
    ap (λ l. ws ++ l) (addresses_then (positions b + p) ps qs ∙ rw on) ∙ sym (append_assoc ws (addresses_in (positions b + p) ps) _)

-- positions that go on from b others
unfoldable shifted : ℕ → Address → Address
shifted b w = record { copy = w.copy; chain = raised b w.chain }

addresses_shifted : (b p : ℕ) (ps : Parts) → addresses_in (b + p) ps ≡ map (shifted b) (addresses_in p ps)
unfolding addresses_in under in_copy shifted raised
addresses_shifted b p none = refl
addresses_shifted b p (item t ps) =
    let on : suc (b + p) ≡ b + suc p = omega arith in
    ap (λ l. record { copy = 0; chain = (b + p) ∷ [] } ∷ l) (rw on (addresses_shifted b (suc p) ps))
addresses_shifted b p (flashed place m c ps) =
    let on : suc (b + p) ≡ b + suc p = omega arith in
    rw (map-append, map-map, on, addresses_shifted b (suc p) ps)
addresses_shifted b p (repeated r c ps) =
    let on : positions c + (b + p) ≡ b + (positions c + p) = omega arith in
    rw (map-append, on, addresses_shifted b (positions c + p) ps)
    (ap (λ l. l ++ map (shifted b) (addresses_in (positions c + p) ps))
    (run_cong (λ n. map (in_copy n) (addresses_in (b + p) c)) (λ n. map (shifted b) (map (in_copy n) (addresses_in p c))) 1 1 (r.nx * r.ny)
    (λ i l. rw (addresses_shifted b p c, map-map, map-map))
    ∙ sym (map_run (shifted b) (λ n. map (in_copy n) (addresses_in p c)) 1 (r.nx * r.ny))))

-- pieces, where F says how many positions each takes, and Y what its addresses are after b positions
pieces_addressed : (g : Address → List ℕ) (f : ℕ → Parts) (F : ℕ → ℕ) (Y : ℕ → ℕ → List (List ℕ)) (p n b : ℕ) →
    ((i : ℕ) → i < n → positions (f (p + i)) ≡ F (p + i)) →
    ((i c : ℕ) → i < n → map g (addresses_in (suc c) (f (p + i))) ≡ Y c (p + i)) →
    map g (addresses_in (suc b) (pieces f p n)) ≡ run (λ i. Y (b + sums F p (i - p)) i) p n
unfolding pieces run addresses_in
pieces_addressed g f F Y p zero b spans each = refl
pieces_addressed g f F Y p (suc n) b spans each =
    let here : positions (f p) ≡ F p = rw (add-zero p) at (spans 0 (omega arith)) in
    let first : map g (addresses_in (suc b) (f p)) ≡ Y b p = rw (add-zero p) at (each 0 b (omega arith)) in
    let on : positions (f p) + suc b ≡ suc (b + F p) = omega arith in
    let next : (i : ℕ) → p + suc i ≡ suc p + i = λ i. omega arith in
    let rest = pieces_addressed g f F Y (suc p) n (b + F p)
    (λ i l. rw (next i) at (spans (suc i) (omega arith)))
    (λ i c l. rw (next i) at (each (suc i) c (omega arith))) in
    ap (map g) (addresses_then (suc b) (f p) (pieces f (suc p) n) ∙ ap (λ q. addresses_in (suc b) (f p) ++ addresses_in q (pieces f (suc p) n)) on)
    ∙ map-append g (addresses_in (suc b) (f p)) _
    ∙ ap (λ l. l ++ map g (addresses_in (suc (b + F p)) (pieces f (suc p) n))) (first ∙ ap (λ x. Y x p) (none_before p b))
    ∙ ap (λ l. Y (b + sums F p (p - p)) p ++ l) (rest ∙ run_cong (λ i. Y (b + F p + sums F (suc p) (i - suc p)) i) (λ i. Y (b + sums F p (i - p)) i) (suc p) (suc p) n
    (λ i l. ap (λ x. Y x (suc p + i)) (one_before p b i)))
  where
    none_before : (p b : ℕ) → b ≡ b + sums F p (p - p)
    none_before p b = let z : p - p ≡ 0 = omega arith in rw z (unfold sums in sym (add-zero b))

    one_before : (p b i : ℕ) → b + F p + sums F (suc p) (suc p + i - suc p) ≡ b + sums F p (suc p + i - p)
    one_before p b i =
        let y : suc p + i - suc p ≡ i = omega arith in
        let z : suc p + i - p ≡ suc i = omega arith in
        rw (y, z) (unfold sums in omega arith)

padded_none : (h : ℕ) → padded h [] ≡ replicate h 0
unfolding padded
padded_none zero = refl
padded_none (suc h) = ap (λ c. 0 ∷ c) (padded_none h)

abbrev chain_in : ℕ → Address → List ℕ
chain_in h w = padded h w.chain

-- the words of addresses that go on from b positions, in a copy
padded_raised : (b : ℕ) (c : List ℕ) → padded 9 (raised b c) ≡ raised b (padded 9 c)
unfolding padded raised
padded_raised b [] = refl
padded_raised b (p ∷ c) = refl

copy_words : (b n : ℕ) (ws : List Address) → map words_of (map (in_copy n) (map (shifted b) ws)) ≡ map (λ c. n ∷ raised b c) (map (chain_in 9) ws)
unfolding words_of in_copy shifted
copy_words b n ws =
    map-map words_of (in_copy n) (map (shifted b) ws)
    ∙ map-map (λ w. words_of (in_copy n w)) (shifted b) ws
    ∙ (λ i. map (λ (w : Address). n ∷ padded_raised b w.chain i) ws)
    ∙ sym (map-map (λ c. n ∷ raised b c) (chain_in 9) ws)

-- an entry that is no repeat
module _ (e a : List ℕ) (below : Container → Parts) (r : Entry) (other : role_of r.kind ≡ Repeats → ⊥) where
  positions_stands : positions (part_of a below r) ≡ stands (role_of r.kind)
  unfolding part_of part_as positions stands
  positions_stands = go (role_of r.kind) refl
    where
      go : (role : Role) → role_of r.kind ≡ role → positions (part_as role a below r) ≡ stands role
      go Draws q = refl
      go Uses q = refl
      go Repeats q = absurd (other q)
      go Defines q = refl
      go Unknown q = refl

  positions_span : positions (part_of a below r) ≡ span_of e r
  unfolding part_of part_as positions span_of span_as
  positions_span = go (role_of r.kind) refl
    where
      go : (role : Role) → role_of r.kind ≡ role → positions (part_as role a below r) ≡ span_as role e r
      go Draws q = refl
      go Uses q = refl
      go Repeats q = absurd (other q)
      go Defines q = refl
      go Unknown q = refl

  -- its chains, where those of the block under it are as it says
  entry_chained : (h c : ℕ) (under-it : Container → List (List ℕ)) →
      (role_of r.kind ≡ Uses → map (chain_in h) (addresses_in 1 (below (block_of a r.who))) ≡ under-it (block_of a r.who)) →
      map (chain_in (suc h)) (addresses_in (suc c) (part_of a below r)) ≡ entry_chains a h under-it (suc c) r
  unfolding part_of part_as addresses_in under padded entry_chains chains_as
  entry_chained h c under-it used = go (role_of r.kind) refl
    where
      go : (role : Role) → role_of r.kind ≡ role → map (chain_in (suc h)) (addresses_in (suc c) (part_as role a below r)) ≡ chains_as role a h under-it (suc c) r
      go Draws q = ap (λ z. (suc c ∷ z) ∷ []) (padded_none h)
      go Uses q = rw (append-nil, ← used q, map-map, map-map)
      go Repeats q = absurd (other q)
      go Defines q = refl
      go Unknown q = refl

-- what is no repeat is put out in no copy
no_copy : (a : List ℕ) (below : Container → Parts) (r : Entry) (b : ℕ) (role : Role) → (role ≡ Repeats → ⊥) →
    map words_of (addresses_in (suc b) (part_as role a below r)) ≡ map (λ c. 0 ∷ c) (map (chain_in 9) (addresses_in (suc b) (part_as role a below r)))
unfolding part_as addresses_in under words_of
no_copy a below r b Draws other = refl
no_copy a below r b Uses other =
    let ws = addresses_in 1 (below (block_of a r.who)) in
    ap (map words_of) (append-nil (map (under (suc b)) ws))
    ∙ map-map words_of (under (suc b)) ws
    ∙ sym (map-map (λ c. 0 ∷ c) (λ w. chain_in 9 (under (suc b) w)) ws)
    ∙ ap (map (λ c. 0 ∷ c)) (sym (map-map (chain_in 9) (under (suc b)) ws) ∙ ap (map (chain_in 9)) (sym (append-nil (map (under (suc b)) ws))))
no_copy a below r b Repeats other = absurd (other refl)
no_copy a below r b Defines other = refl
no_copy a below r b Unknown other = refl

module _ (head e a : List ℕ) (v : valid head e a ≡ true) where
  -- of a block or a body
  pub chains_are : (h h' : ℕ) (k : Container) → Sound head e a k → k.height ≤ 9 → k.height ≤ h → k.height ≤ h' →
      map (chain_in h) (addresses_in 1 (parts e a h' k)) ≡ chains e a h k
  unfolding chains parts
  chains_are zero h' k s nine l l' = let low = s.low in absurd (omega arith)
  chains_are (suc h) zero k s nine l l' = let low = s.low in absurd (omega arith)
  chains_are (suc h) (suc h') k s nine l l' =
      pieces_addressed (chain_in (suc h)) (λ i. part_of a (parts e a h') (entry_of e i)) (span_at e) (λ b i. entry_chains a h (chains e a h) (suc b) (entry_of e i)) k.first k.len 0
      (λ i li. positions_span e a (parts e a h') (entry_of e (k.first + i)) (no_repeat head e a v k s nine i li))
      (λ i c li. entry_chained e a (parts e a h') (entry_of e (k.first + i)) (no_repeat head e a v k s nine i li) h c (chains e a h)
      (λ q. let u = used_low head e a v k s i li q in let lower = u.0.lower in chains_are h h' _ u.0.sound u.1 (omega arith) (omega arith)))
      ∙ run_cong (λ i. entry_chains a h (chains e a h) (suc (0 + before e k i)) (entry_of e i)) (λ i. entry_chains a h (chains e a h) (suc (before e k i)) (entry_of e i)) k.first k.first k.len
      (λ i li. ap (λ x. entry_chains a h (chains e a h) (suc x) (entry_of e (k.first + i))) (zero-add (before e k (k.first + i))))

  module _ (i : ℕ) (l : i < (top_of head).len) where
    abbrev entry : Entry
    entry = entry_of e ((top_of head).first + i)

    body_positions : role_of entry.kind ≡ Repeats → positions (parts e a 9 (body_of entry)) ≡ sums (stands_at e) entry.who entry.scale
    unfolding parts body_of
    body_positions q =
        let s = body_sound head e a v i l q in
        positions_pieces (λ j. part_of a (parts e a 8) (entry_of e j)) entry.who entry.scale
        ∙ sums_cong (λ j. positions (part_of a (parts e a 8) (entry_of e j))) (stands_at e) entry.who entry.scale
        (λ j lj. positions_stands e a (parts e a 8) (entry_of e (entry.who + j)) (no_repeat head e a v (body_of entry) s (lit≤ tt) j lj))

    entry_spans : positions (part_of a (parts e a 9) entry) ≡ span_of e entry
    unfolding part_of part_as positions span_of span_as
    entry_spans = go (role_of entry.kind) refl
      where
        go : (role : Role) → role_of entry.kind ≡ role → positions (part_as role a (parts e a 9) entry) ≡ span_as role e entry
        go Draws q = refl
        go Uses q = refl
        go Repeats q = add-zero _ ∙ body_positions q
        go Defines q = refl
        go Unknown q = refl

    -- in no copy
    plain_addressed : (b : ℕ) → (role_of entry.kind ≡ Repeats → ⊥) →
        map (chain_in 9) (addresses_in (suc b) (part_of a (parts e a 9) entry)) ≡ entry_chains a 8 (chains e a 8) (suc b) entry
    plain_addressed b other = entry_chained e a (parts e a 9) entry other 8 b (chains e a 8)
        (λ q. let u = used_block head e a v i l q in let eight = u.1 in chains_are 8 9 _ u.0 (omega arith) eight (omega arith))

    -- in each copy
    copies_addressed : (b : ℕ) → role_of entry.kind ≡ Repeats →
        map words_of (run (λ n. map (in_copy n) (addresses_in (suc b) (parts e a 9 (body_of entry)))) 1 (entry.sx * entry.sy))
        ≡ run (λ n. map (λ c. n ∷ raised b c) (chains e a 9 (body_of entry))) 1 (entry.sx * entry.sy)
    copies_addressed b q =
        let body = parts e a 9 (body_of entry) in
        let nine = body_nine head e a v entry in
        let on : addresses_in (suc b) body ≡ map (shifted b) (addresses_in 1 body) = ap (λ p. addresses_in p body) (sym (add-one b)) ∙ addresses_shifted b 1 body in
        let are = chains_are 9 9 (body_of entry) (body_sound head e a v i l q) (omega arith) (omega arith) (omega arith) in
        map_run words_of (λ n. map (in_copy n) (addresses_in (suc b) body)) 1 (entry.sx * entry.sy)
        ∙ run_cong (λ n. map words_of (map (in_copy n) (addresses_in (suc b) body))) (λ n. map (λ c. n ∷ raised b c) (chains e a 9 (body_of entry))) 1 1 (entry.sx * entry.sy)
        (λ n _. rw (on, ← are) (copy_words b (1 + n) (addresses_in 1 body)))

    entry_addressed : (b : ℕ) → map words_of (addresses_in (suc b) (part_of a (parts e a 9) entry)) ≡ entry_addresses e a b entry
    unfolding part_of part_as addresses_in under entry_addresses addresses_as repeat_of
    entry_addressed b = go (role_of entry.kind) refl
      where
        by_role : {role : Role} → role_of entry.kind ≡ role → (role_of entry.kind ≡ Repeats → ⊥) →
            map (λ c. 0 ∷ c) (map (chain_in 9) (addresses_in (suc b) (part_as role a (parts e a 9) entry))) ≡ map (λ c. 0 ∷ c) (entry_chains a 8 (chains e a 8) (suc b) entry)
        by_role q other = ap (map (λ c. 0 ∷ c))
            (ap (λ role. map (chain_in 9) (addresses_in (suc b) (part_as role a (parts e a 9) entry))) (sym q) ∙ plain_addressed b other)

        go : (role : Role) → role_of entry.kind ≡ role → map words_of (addresses_in (suc b) (part_as role a (parts e a 9) entry)) ≡ addresses_as role e a b entry
        go Draws q = no_copy a (parts e a 9) entry b Draws (λ z. let c : ◌≡◌ {A = ℕ} 0 1 = cc in omega arith) ∙ by_role q (λ z. let c : ◌≡◌ {A = ℕ} 0 1 = cc in omega arith)
        go Uses q = no_copy a (parts e a 9) entry b Uses (λ z. let c : ◌≡◌ {A = ℕ} 0 1 = cc in omega arith) ∙ by_role q (λ z. let c : ◌≡◌ {A = ℕ} 0 1 = cc in omega arith)
        go Repeats q =
            ap (map words_of) (append-nil (run (λ n. map (in_copy n) (addresses_in (suc b) (parts e a 9 (body_of entry)))) 1 (entry.sx * entry.sy)))
            ∙ copies_addressed b q
        go Defines q = refl
        go Unknown q = refl

  -- of the sheet
  pub addresses_are : part_addresses (sheet_parts head e a) ≡ sheet_addresses head e a
  unfolding part_addresses sheet_addresses sheet_parts
  addresses_are = unfold parts in
      pieces_addressed words_of (λ i. part_of a (parts e a 9) (entry_of e i)) (span_at e) (λ b i. entry_addresses e a b (entry_of e i)) (top_of head).first (top_of head).len 0
      entry_spans (λ i c l. entry_addressed i l c)
      ∙ run_cong (λ i. entry_addresses e a (0 + before e (top_of head) i) (entry_of e i)) (λ i. entry_addresses e a (before e (top_of head) i) (entry_of e i)) (top_of head).first (top_of head).first (top_of head).len
      (λ i l. ap (λ x. entry_addresses e a x (entry_of e ((top_of head).first + i))) (zero-add (before e (top_of head) ((top_of head).first + i))))
