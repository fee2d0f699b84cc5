-- At the top level: the search undoes the list of addresses, and the list the search.
-- Assumes nothing.
use Rattle.std.specs.Prelude.{None, Some}
use Prim.Native.Nat.{ℕ, suc, ◌+◌, ◌-◌, ◌*◌, ◌/◌, ◌%◌, ◌≤◌, ◌<◌}
use mathlib.Core.Path.{◌≡◌, refl, sym, ap, ◌∙◌}
use mathlib.Core.Bool.{true, false, cond}
use mathlib.Core.List.{List, [], ◌∷◌, map}
use mathlib.Core.Logic.{◌⊎◌, inl, inr}
use native.Mathlib.Nat.{div-add-mod', mod-lt, div-lt_iff_lt-mul, mul-le-mul_right}
use native.Mathlib.Numerals.{add-one}
use native.Mathlib.Omega.{arith}
use lib.Dec.{eqb, leb}
use lib.ListN.{length, get_or, drop, length-map}
use borrow.Author.Tests.{le-leb, leb-true, eqb-true}
use Rattle.base.specs.And.{◌and◌}
use Rattle.base.specs.Run.{run, sums}
use Rattle.base.proofs.And.{and_l, and_r}
use Rattle.base.proofs.Run.{nth_map, nth_run_by, sums_const, sums_cong, factor_pos}
use Rattle.sheet.specs.Records.{entry_of, role_of}
use Rattle.sheet.specs.Containers.{block_of, body_of, top_of}
use Rattle.sheet.specs.Valid.{size_as, size_of, size_at, valid}
use Rattle.sheet.specs.declared.Entry.{Entry}
use Rattle.sheet.specs.declared.Container.{Container}
use Rattle.sheet.specs.declared.Role.{Role}
use Rattle.sheet.specs.declared.Role.TheVariants.{Draws, Uses, Repeats, Defines, Unknown}
use Rattle.sheet.proofs.Sound.{top_sound}
use Rattle.law_addresses.specs.Positions.{stands, stands_at, span_as, span_of, span_at, spot}
use Rattle.law_addresses.specs.declared.Spot.{Spot}
use Rattle.law_addresses.proofs.Spots.{spotted, spot_at}
use Rattle.law_addresses.proofs.Fitting.{no_repeat}
use Rattle.law_addresses.specs.Chains.{entry_chains, chains}
use Rattle.law_addresses.specs.Addresses.{raised, addresses_as, entry_addresses, sheet_addresses}
use Rattle.law_addresses.specs.Sought.{sought_as, misses, sought, sought_top_as, sought_top_at, sought_top}
use Rattle.law_addresses.proofs.Length.{used_block, body_sound, body_nine, body_count, length_body, length_plain, length_chains, address_at}
use Rattle.law_addresses.proofs.Lies.{lies, below_sum, two_rest, length_two, not_named, further_told, further_at, cond_told, cond_not, misses_not, misses_told}
use Rattle.law_addresses.proofs.Undo.{Undone, undone, chained, found, chain_head}

-- the positions of a body are those that its repeat takes
span_stands : (e : List ℕ) (r : Entry) → (role_of r.kind ≡ Repeats → ⊥) → span_of e r ≡ stands (role_of r.kind)
unfolding span_of span_as stands
span_stands e r other = go (role_of r.kind) refl
  where
    go : (role : Role) → role_of r.kind ≡ role → span_as role e r ≡ stands role
    go Draws q = refl
    go Uses q = refl
    go Repeats q = absurd (other q)
    go Defines q = refl
    go Unknown q = refl

span_repeats : (e : List ℕ) (r : Entry) → role_of r.kind ≡ Repeats → sums (stands_at e) (body_of r).first (body_of r).len ≡ span_of e r
unfolding span_of span_as body_of
span_repeats e r q = rw q

size_repeats : (a : List ℕ) (r : Entry) → role_of r.kind ≡ Repeats → size_of a r ≡ r.sx * r.sy * r.count
unfolding size_of size_as
size_repeats a r q = rw q (omega arith)

module _ (head e a : List ℕ) (v : valid head e a ≡ true) where
  abbrev top : Container
  top = top_of head

  abbrev entry : ℕ → Entry
  entry i = entry_of e (top.first + i)

  abbrev behind : ℕ → ℕ
  behind i = sums (span_at e) top.first i

  starts : (i : ℕ) → i < top.len → (entry i).before ≡ sums (size_at e a) top.first i
  starts i l = (top_sound head e a v).ok.before_is i l

  under : (i : ℕ) → i < top.len → role_of (entry i).kind ≡ Uses →
      Undone e a 8 (block_of a (entry i).who) × (length (chains e a 8 (block_of a (entry i).who)) ≡ (block_of a (entry i).who).items) × (1 ≤ 8)
  under i l q =
      let u = used_block head e a v i l q in
      let eight = u.1 in
      (undone head e a v 8 _ u.0 (omega arith) eight, length_chains head e a v 8 _ u.0 (omega arith) eight, omega arith)

  body_spans : (i : ℕ) (l : i < top.len) → role_of (entry i).kind ≡ Repeats → sums (span_at e) (body_of (entry i)).first (body_of (entry i)).len ≡ span_of e (entry i)
  body_spans i l q =
      let nine = body_nine head e a v (entry i) in
      sums_cong (span_at e) (stands_at e) (body_of (entry i)).first (body_of (entry i)).len
      (λ j m. span_stands e _ (no_repeat head e a v (body_of (entry i)) (body_sound head e a v i l q) (omega arith) j m))
      ∙ span_repeats e (entry i) q

  body_undone : (i : ℕ) (l : i < top.len) → role_of (entry i).kind ≡ Repeats → Undone e a 9 (body_of (entry i))
  body_undone i l q = let nine = body_nine head e a v (entry i) in undone head e a v 9 (body_of (entry i)) (body_sound head e a v i l q) (omega arith) (omega arith)

  -- at a position of an entry the search goes on in the entry
  top_in : (i left copy : ℕ) (rest : List ℕ) → i < top.len → 1 ≤ left → left ≤ span_of e (entry i) →
      sought_top e a top (copy ∷ (behind i + left) ∷ rest) ≡ sought_top_as (role_of (entry i).kind) e a copy left (entry i) rest
  unfolding sought_top sought_top_at
  top_in i left copy rest l some held =
      rw (spot_at (span_at e) top.first top.len i left l some held, misses_not top (behind i + left) i left (omega arith) l)

  -- an entry that is no repeat: copy 0, and its chains
  plain_addresses : (i b : ℕ) → (role_of (entry i).kind ≡ Draws) ⊎ (role_of (entry i).kind ≡ Uses) →
      entry_addresses e a b (entry i) ≡ map (λ c. 0 ∷ c) (entry_chains a 8 (chains e a 8) (suc b) (entry i))
  unfolding entry_addresses addresses_as
  plain_addresses i b (inl q) = ap (λ role. addresses_as role e a b (entry i)) q
  plain_addresses i b (inr q) = ap (λ role. addresses_as role e a b (entry i)) q

  plain_sought : (i copy left : ℕ) (rest : List ℕ) → (role_of (entry i).kind ≡ Draws) ⊎ (role_of (entry i).kind ≡ Uses) →
      sought_top_as (role_of (entry i).kind) e a copy left (entry i) rest
      ≡ cond (eqb copy 0) (sought_as (role_of (entry i).kind) a (sought e a 8) (entry i) rest) None
  unfolding sought_top_as
  plain_sought i copy left rest (inl q) = rw q
  plain_sought i copy left rest (inr q) = rw q

  not_repeat : (i : ℕ) → (role_of (entry i).kind ≡ Draws) ⊎ (role_of (entry i).kind ≡ Uses) → role_of (entry i).kind ≡ Repeats → ⊥
  not_repeat i (inl q) r = let z : ◌≡◌ {A = ℕ} 0 1 = cc in omega arith
  not_repeat i (inr q) r = let z : ◌≡◌ {A = ℕ} 0 1 = cc in omega arith

  abbrev address : ℕ → List ℕ
  address n = get_or (sheet_addresses head e a) n []

  module _ (i : ℕ) (l : i < top.len) where
    -- what stands at item j of the entry
    plain_at : (o : (role_of (entry i).kind ≡ Draws) ⊎ (role_of (entry i).kind ≡ Uses)) (j : ℕ) → j < size_of a (entry i) →
        get_or (entry_addresses e a (behind i) (entry i)) j [] ≡ 0 ∷ get_or (entry_chains a 8 (chains e a 8) (suc (behind i)) (entry i)) j []
    plain_at o j m =
        let long = length_plain head e a v i l (behind i) (not_repeat i o) in
        ap (λ w. get_or w j []) (plain_addresses i (behind i) o)
        ∙ nth_map (λ c. 0 ∷ c) (entry_chains a 8 (chains e a 8) (suc (behind i)) (entry i)) j [] [] (omega arith)

    plain_back : (o : (role_of (entry i).kind ≡ Draws) ⊎ (role_of (entry i).kind ≡ Uses)) (j : ℕ) → j < size_of a (entry i) →
        sought_top e a top (get_or (entry_addresses e a (behind i) (entry i)) j []) ≡ Some ((entry i).before + j)
    plain_back o j m =
        let c = chained e a 8 (suc (behind i)) (entry i) (under i l) (not_repeat i o) j m in
        let one = c.one in
        ap (sought_top e a top) (plain_at o j m ∙ ap (λ w. 0 ∷ w) (c.chain ∙ ap (λ p. p ∷ c.rest) (sym (add-one (behind i)))))
        ∙ top_in i 1 0 c.rest l (omega arith) (omega arith)
        ∙ plain_sought i 0 1 c.rest o
        ∙ c.finds

    module _ (q : role_of (entry i).kind ≡ Repeats) where
      abbrev body : List (List ℕ)
      body = chains e a 9 (body_of (entry i))

      abbrev copied : ℕ → List (List ℕ)
      copied copy = map (λ c. copy ∷ raised (behind i) c) body

      copied_long : (copy : ℕ) → length (copied copy) ≡ (entry i).count
      copied_long copy = length-map body _ ∙ length_body head e a v i l q

      repeat_addresses : entry_addresses e a (behind i) (entry i) ≡ run copied 1 ((entry i).sx * (entry i).sy)
      unfolding entry_addresses addresses_as
      repeat_addresses = ap (λ role. addresses_as role e a (behind i) (entry i)) q

      -- item m of a copy
      copy_at : (copy m : ℕ) → copy < (entry i).sx * (entry i).sy → m < (entry i).count →
          get_or (entry_addresses e a (behind i) (entry i)) (copy * (entry i).count + m) [] ≡ suc copy ∷ raised (behind i) (get_or body m [])
      copy_at copy m lc lm =
          let long = length_body head e a v i l q in
          ap (λ w. get_or w (copy * (entry i).count + m) []) repeat_addresses
          ∙ ap (λ n. get_or (run copied 1 ((entry i).sx * (entry i).sy)) (n + m) []) (sym (sums_const (entry i).count 1 copy))
          ∙ nth_run_by copied (λ _. (entry i).count) 1 ((entry i).sx * (entry i).sy) (λ c _. copied_long (1 + c)) [] copy m lc lm
          ∙ nth_map (λ c. (1 + copy) ∷ raised (behind i) c) body m [] [] (omega arith)
          ∙ ap (λ n. n ∷ raised (behind i) (get_or body m [])) (one_more copy)
        where
          one_more : (n : ℕ) → 1 + n ≡ suc n
          one_more n = omega arith

      repeat_sought : (copy left : ℕ) (rest : List ℕ) → copy < (entry i).sx * (entry i).sy → (m : ℕ) → sought e a 9 (body_of (entry i)) left rest ≡ Some m →
          sought_top_as (role_of (entry i).kind) e a (suc copy) left (entry i) rest ≡ Some ((entry i).before + copy * (entry i).count + m)
      unfolding sought_top_as ◌and◌
      repeat_sought copy left rest lc m t =
          let one : suc copy - 1 ≡ copy = omega arith in
          rw (q, le-leb 1 (suc copy) (omega arith), le-leb (suc copy) ((entry i).sx * (entry i).sy) lc, one)
          (further_at ((entry i).before + copy * (entry i).count) m _ t)

      repeat_back : (copy m : ℕ) → copy < (entry i).sx * (entry i).sy → m < (entry i).count →
          sought_top e a top (get_or (entry_addresses e a (behind i) (entry i)) (copy * (entry i).count + m) []) ≡ Some ((entry i).before + copy * (entry i).count + m)
      unfolding raised
      repeat_back copy m lc lm =
          let nine = body_nine head e a v (entry i) in
          let count = body_count head e a v (entry i) in
          let c = chain_head head e a v 8 (body_of (entry i)) (body_sound head e a v i l q) (omega arith) (omega arith) m (omega arith) in
          let in_span = body_spans i l q in
          let high = c.4 in
          let back = (body_undone i l q).back m (omega arith) in
          ap (sought_top e a top) (copy_at copy m lc lm ∙ ap (λ w. suc copy ∷ raised (behind i) w) c.2)
          ∙ top_in i c.0 (suc copy) c.1 l c.3 (omega arith)
          ∙ repeat_sought copy c.0 c.1 lc m (sym (ap (λ w. sought e a 9 (body_of (entry i)) (get_or w 0 0) (drop 1 w)) c.2) ∙ back)

      repeat_all : (j : ℕ) → j < size_of a (entry i) → sought_top e a top (get_or (entry_addresses e a (behind i) (entry i)) j []) ≡ Some ((entry i).before + j)
      repeat_all j m =
          let size = size_repeats a (entry i) q in
          let inside : j < (entry i).sx * (entry i).sy * (entry i).count = omega arith in
          let some = factor_pos j ((entry i).sx * (entry i).sy) (entry i).count inside in
          let is = div-add-mod' j (entry i).count in
          ap (λ n. sought_top e a top (get_or (entry_addresses e a (behind i) (entry i)) n [])) (sym is)
          ∙ repeat_back (j / (entry i).count) (j % (entry i).count) ((div-lt_iff_lt-mul some).1 inside) (mod-lt j some)
          ∙ ap Some (omega arith)

    entry_back : (j : ℕ) → j < size_of a (entry i) → sought_top e a top (get_or (entry_addresses e a (behind i) (entry i)) j []) ≡ Some ((entry i).before + j)
    entry_back j m = go (role_of (entry i).kind) refl
      where
        nothing : size_of a (entry i) ≡ 0 → sought_top e a top (get_or (entry_addresses e a (behind i) (entry i)) j []) ≡ Some ((entry i).before + j)
        nothing z = absurd (omega arith)

        go : (role : Role) → role_of (entry i).kind ≡ role → sought_top e a top (get_or (entry_addresses e a (behind i) (entry i)) j []) ≡ Some ((entry i).before + j)
        go Draws q = plain_back (inl q) j m
        go Uses q = plain_back (inr q) j m
        go Repeats q = repeat_all q j m
        go Defines q = nothing (unfold size_of size_as in rw q)
        go Unknown q = nothing (unfold size_of size_as in rw q)

  -- the address of item n names item n
  pub top_back : (n : ℕ) → n < top.items → sought_top e a top (address n) ≡ Some n
  top_back n l =
      let whole = (top_sound head e a v).ok.items_are in
      let y = lies (size_at e a) top.first top.len n (omega arith) in
      ap (sought_top e a top) (ap address y.is ∙ address_at head e a v y.i y.j y.i_in y.j_in)
      ∙ entry_back y.i y.i_in y.j y.j_in
      ∙ ap (λ m. Some (m + y.j)) (starts y.i y.i_in) ∙ ap Some (sym y.is)

  -- what the search finds in an entry has that address
  record Named-in (i copy left : ℕ) (rest : List ℕ) (n : ℕ) : Type 0 where
    j : ℕ
    j_in : j < size_of a (entry i)
    is : n ≡ (entry i).before + j
    words : get_or (entry_addresses e a (behind i) (entry i)) j [] ≡ copy ∷ (behind i + left) ∷ rest

  module _ (i : ℕ) (l : i < top.len) (copy left : ℕ) (rest : List ℕ) (n : ℕ) (some : 1 ≤ left) (held : left ≤ span_of e (entry i)) (long : length rest ≡ 8) where
    plain_forth : (o : (role_of (entry i).kind ≡ Draws) ⊎ (role_of (entry i).kind ≡ Uses)) →
        sought_top_as (role_of (entry i).kind) e a copy left (entry i) rest ≡ Some n → Named-in i copy left rest n
    plain_forth o t =
        let told = cond_told (eqb copy 0) n _ (sym (plain_sought i copy left rest o) ∙ t) in
        let zero-copy = eqb-true copy 0 told.0 in
        let f = found e a 8 (suc (behind i)) (entry i) (under i l) (not_repeat i o) rest n long told.1 in
        let one = f.one in
        let at : suc (behind i) ≡ behind i + left = omega arith in
        record {
          j = f.j;
          j_in = f.j_in;
          is = f.is;
          words = plain_at i l o f.j f.j_in ∙ ap (λ w. 0 ∷ w) f.chain ∙ (λ t. sym zero-copy t ∷ at t ∷ rest);
        }

    repeat_told : role_of (entry i).kind ≡ Repeats → sought_top_as (role_of (entry i).kind) e a copy left (entry i) rest ≡ Some n →
        (1 ≤ copy) × (copy ≤ (entry i).sx * (entry i).sy) × ((m : ℕ) × (sought e a 9 (body_of (entry i)) left rest ≡ Some m) × (n ≡ (entry i).before + (copy - 1) * (entry i).count + m))
    unfolding sought_top_as
    repeat_told q t =
        let told = cond_told (leb 1 copy and leb copy ((entry i).sx * (entry i).sy)) n _ (rw q at t) in
        (leb-true _ _ (and_l _ _ told.0), leb-true _ _ (and_r _ _ told.0), further_told ((entry i).before + (copy - 1) * (entry i).count) n _ told.1)

    repeat_forth : role_of (entry i).kind ≡ Repeats → sought_top_as (role_of (entry i).kind) e a copy left (entry i) rest ≡ Some n → Named-in i copy left rest n
    unfolding raised
    repeat_forth q t =
        let told = repeat_told q t in
        let from = told.0 in
        let to = told.1 in
        let m = told.2.0 in
        let w = (body_undone i l q).forth left rest m (omega arith) told.2.1 in
        let count = body_count head e a v (entry i) in
        let inside : m < (entry i).count = (let x = w.0 in omega arith) in
        let size = size_repeats a (entry i) q in
        let c = copy - 1 in
        let below : suc (copy - 1) ≤ (entry i).sx * (entry i).sy = omega arith in
        let whole = mul-le-mul_right (entry i).count below in
        let up : suc (copy - 1) ≡ copy = omega arith in
        let n-is = told.2.2 in
        record {
          j = (copy - 1) * (entry i).count + m;
          j_in = omega arith;
          is = omega arith;
          words = copy_at i l q (copy - 1) m below inside ∙ (λ t. up t ∷ raised (behind i) (w.1 t));
        }

    entry_forth : sought_top_as (role_of (entry i).kind) e a copy left (entry i) rest ≡ Some n → Named-in i copy left rest n
    unfolding sought_top_as
    entry_forth t = go (role_of (entry i).kind) refl
      where
        go : (role : Role) → role_of (entry i).kind ≡ role → Named-in i copy left rest n
        go Draws q = plain_forth (inl q) t
        go Uses q = plain_forth (inr q) t
        go Repeats q = repeat_forth q t
        go Defines q = absurd (not_named (rw q at t))
        go Unknown q = absurd (not_named (rw q at t))

  -- what an address names has that address
  module _ (w : List ℕ) (n : ℕ) (ten : length w ≡ 10) (t : sought_top e a top w ≡ Some n) where
    abbrev sp : Spot
    sp = spot (span_at e) top.first top.len (get_or w 1 0)

    meets : (misses top (get_or w 1 0) sp ≡ false)
        × (sought_top_as (role_of (entry_of e sp.entry).kind) e a (get_or w 0 0) sp.left (entry_of e sp.entry) (drop 2 w) ≡ Some n)
    unfolding sought_top sought_top_at
    meets = cond_not _ n _ t

    pub top_forth : (n < top.items) × (address n ≡ w)
    top_forth =
        let m = misses_told top (get_or w 1 0) sp meets.0 in
        let y = spotted (span_at e) top.first top.len (get_or w 1 0) m.0 m.1 in
        let here = rw y.entry_is at meets.1 in
        let rest = length_two w (omega arith) in
        let f = entry_forth y.i y.i_in (get_or w 0 0) sp.left (drop 2 w) n y.some y.held (omega arith) here in
        let is : n ≡ sums (size_at e a) top.first y.i + f.j = f.is ∙ ap (λ m. m + f.j) (starts y.i y.i_in) in
        let whole = (top_sound head e a v).ok.items_are in
        let inside = below_sum (size_at e a) top.first top.len y.i f.j y.i_in f.j_in in (
          omega arith,
          ap address is ∙ address_at head e a v y.i f.j y.i_in f.j_in ∙ f.words
              ∙ ap (λ p. get_or w 0 0 ∷ p ∷ drop 2 w) (sym y.position) ∙ sym (two_rest w (omega arith)),
        )
