-- Within a block or a body: the search undoes the list of chains, and the list the search.
-- Assumes nothing.
use Rattle.std.specs.Prelude.{Some}
use Prim.Native.Nat.{ℕ, zero, suc, ◌+◌, ◌≤◌, ◌<◌}
use mathlib.Core.Path.{◌≡◌, refl, sym, ap, subst, ◌∙◌}
use mathlib.Core.Bool.{true, false}
use mathlib.Core.List.{List, [], ◌∷◌}
use native.Mathlib.Nat.{add-zero}
use native.Mathlib.Numerals.{add-one}
use native.Mathlib.Omega.{arith}
use lib.ListN.{length, get_or, drop, replicate}
use Rattle.base.specs.Run.{sums}
use Rattle.base.proofs.Run.{nth_map, sums_snoc}
use Rattle.sheet.specs.Records.{entry_of, role_of}
use Rattle.sheet.specs.Containers.{block_of}
use Rattle.sheet.specs.Valid.{size_as, size_of, size_at, valid}
use Rattle.sheet.specs.declared.Entry.{Entry}
use Rattle.sheet.specs.declared.Container.{Container}
use Rattle.sheet.specs.declared.Role.{Role}
use Rattle.sheet.specs.declared.Role.TheVariants.{Draws, Uses, Repeats, Defines, Unknown}
use Rattle.sheet.specs.Sound.{Sound}
use Rattle.sheet.proofs.Every.{sums_grow}
use Rattle.law_addresses.specs.Positions.{span_as, span_of, span_at, spot}
use Rattle.law_addresses.specs.declared.Spot.{Spot}
use Rattle.law_addresses.proofs.Spots.{Spotted, spotted, spot_at}
use Rattle.law_addresses.proofs.Fitting.{no_repeat}
use Rattle.law_addresses.specs.Chains.{chains_as, entry_chains, chains}
use Rattle.law_addresses.specs.Sought.{all_zero, sought_as, misses, sought_at, sought}
use Rattle.law_addresses.proofs.Length.{used_low, length_chains, chain_at}
use Rattle.law_addresses.proofs.Lies.{lies, below_sum, zeros_are, are_zeros, first_rest, length_rest, not_named, at_same, further_told, further_at, cond_told, cond_not, misses_not, misses_told}

-- in the container k the two undo each other
pub record Undone (e a : List ℕ) (h : ℕ) (k : Container) : Type 0 where
  pub back : (n : ℕ) → n < k.items → sought e a h k (get_or (get_or (chains e a h k) n []) 0 0) (drop 1 (get_or (chains e a h k) n [])) ≡ Some n
  pub forth : (q : ℕ) (rest : List ℕ) (n : ℕ) → suc (length rest) ≡ h → sought e a h k q rest ≡ Some n → (n < k.items) × (get_or (chains e a h k) n [] ≡ q ∷ rest)

-- an entry that draws or uses a block takes one position, and one with items and no repeat does one of the two
pub span_draws : (e : List ℕ) (r : Entry) → role_of r.kind ≡ Draws → span_of e r ≡ 1
unfolding span_of span_as
span_draws e r q = rw q

pub span_uses : (e : List ℕ) (r : Entry) → role_of r.kind ≡ Uses → span_of e r ≡ 1
unfolding span_of span_as
span_uses e r q = rw q

-- the entry r at position p of a container, over containers of h words under it
module _ (e a : List ℕ) (h p : ℕ) (r : Entry) where
  pub chain_draws : role_of r.kind ≡ Draws → get_or (entry_chains a h (chains e a h) p r) 0 [] ≡ p ∷ replicate h 0
  unfolding entry_chains chains_as
  chain_draws q = rw q

  pub chain_uses : role_of r.kind ≡ Uses → (j : ℕ) → j < length (chains e a h (block_of a r.who)) →
      get_or (entry_chains a h (chains e a h) p r) j [] ≡ p ∷ get_or (chains e a h (block_of a r.who)) j []
  unfolding entry_chains chains_as
  chain_uses q j l = rw q (nth_map (λ c. p ∷ c) (chains e a h (block_of a r.who)) j [] [] l)

  -- what a chain of the entry is, and that the search after its position finds it
  pub record Chained (j : ℕ) : Type 0 where
    pub rest : List ℕ
    pub chain : get_or (entry_chains a h (chains e a h) p r) j [] ≡ p ∷ rest
    pub finds : sought_as (role_of r.kind) a (sought e a h) r rest ≡ Some (r.before + j)
    pub one : span_of e r ≡ 1

  pub size_draws : role_of r.kind ≡ Draws → size_of a r ≡ 1
  unfolding size_of size_as
  size_draws q = rw q

  pub size_uses : role_of r.kind ≡ Uses → size_of a r ≡ (block_of a r.who).items
  unfolding size_of size_as
  size_uses q = rw q

  -- the block under it, where it uses one
  module _ (under : role_of r.kind ≡ Uses → Undone e a h (block_of a r.who) × (length (chains e a h (block_of a r.who)) ≡ (block_of a r.who).items) × (1 ≤ h))
      (other : role_of r.kind ≡ Repeats → ⊥) where
    finds_draws : role_of r.kind ≡ Draws → sought_as (role_of r.kind) a (sought e a h) r (replicate h 0) ≡ Some (r.before + 0)
    unfolding sought_as
    finds_draws q = rw (q, zeros_are h, add-zero r.before)

    finds_uses : role_of r.kind ≡ Uses → (j : ℕ) → j < (block_of a r.who).items →
        sought_as (role_of r.kind) a (sought e a h) r (get_or (chains e a h (block_of a r.who)) j []) ≡ Some (r.before + j)
    unfolding sought_as
    finds_uses q j l = rw q (further_at r.before j _ ((under q).0.back j l))

    pub chained : (j : ℕ) → j < size_of a r → Chained j
    chained j l = go (role_of r.kind) refl
      where
        nothing : size_of a r ≡ 0 → Chained j
        nothing z = absurd (omega arith)

        go : (role : Role) → role_of r.kind ≡ role → Chained j
        go Draws q =
            let size = size_draws q in
            let z : 0 ≡ j = omega arith in
            subst Chained z (record { rest = replicate h 0; chain = chain_draws q; finds = finds_draws q; one = span_draws e r q })
        go Uses q =
            let size = size_uses q in
            let inside : j < (block_of a r.who).items = omega arith in
            let long = (under q).1 in
            record { rest = _; chain = chain_uses q j (omega arith); finds = finds_uses q j inside; one = span_uses e r q }
        go Repeats q = absurd (other q)
        go Defines q = nothing (unfold size_of size_as in rw q)
        go Unknown q = nothing (unfold size_of size_as in rw q)

    -- and what the search finds is the chain
    pub record Finds (rest : List ℕ) (n : ℕ) : Type 0 where
      pub j : ℕ
      pub j_in : j < size_of a r
      pub is : n ≡ r.before + j
      pub chain : get_or (entry_chains a h (chains e a h) p r) j [] ≡ p ∷ rest
      pub one : span_of e r ≡ 1

    pub found : (rest : List ℕ) (n : ℕ) → length rest ≡ h → sought_as (role_of r.kind) a (sought e a h) r rest ≡ Some n → Finds rest n
    unfolding sought_as
    found rest n long t = go (role_of r.kind) refl t
      where
        go : (role : Role) → role_of r.kind ≡ role → sought_as role a (sought e a h) r rest ≡ Some n → Finds rest n
        go Draws q t =
            let told = cond_told (all_zero rest) n (Some r.before) t in
            let zeros : rest ≡ replicate h 0 = are_zeros rest told.0 ∙ ap (λ m. replicate m 0) long in
            let size = size_draws q in
            record {
              j = 0;
              j_in = omega arith;
              is = sym (at_same told.1) ∙ sym (add-zero r.before);
              chain = chain_draws q ∙ ap (λ w. p ∷ w) (sym zeros);
              one = span_draws e r q;
            }
        go Uses q t =
            let told = further_told r.before n _ t in
            let u = under q in
            let some = u.2 in
            let all = u.1 in
            let w = u.0.forth (get_or rest 0 0) (drop 1 rest) told.0 (length_rest rest (omega arith) ∙ long) told.1 in
            let inside = w.0 in
            let size = size_uses q in
            record {
              j = told.0;
              j_in = omega arith;
              is = told.2;
              chain = chain_uses q told.0 (omega arith) ∙ ap (λ c. p ∷ c) (w.1 ∙ sym (first_rest rest (omega arith)));
              one = span_uses e r q;
            }
        go Repeats q t = absurd (not_named t)
        go Defines q t = absurd (not_named t)
        go Unknown q t = absurd (not_named t)

module _ (head e a : List ℕ) (v : valid head e a ≡ true) where
  module _ (h : ℕ) (k : Container) (s : Sound head e a k) (low : k.height ≤ 9) (high : k.height ≤ suc h)
      (deeper : (u : Container) → Sound head e a u → u.height ≤ 9 → u.height ≤ h → Undone e a h u) where
    under : (i : ℕ) (l : i < k.len) → let r = entry_of e (k.first + i) in
        role_of r.kind ≡ Uses → Undone e a h (block_of a r.who) × (length (chains e a h (block_of a r.who)) ≡ (block_of a r.who).items) × (1 ≤ h)
    under i l q =
        let u = used_low head e a v k s i l q in
        let nine = u.1 in
        let lower = u.0.lower in
        let one = u.0.sound.low in
        (deeper _ u.0.sound nine (omega arith), length_chains head e a v h _ u.0.sound nine (omega arith), omega arith)

    -- at the position of an entry the search goes on in the entry
    sought_in : (i : ℕ) → i < k.len → span_of e (entry_of e (k.first + i)) ≡ 1 → (rest : List ℕ) →
        sought e a (suc h) k (suc (sums (span_at e) k.first i)) rest
        ≡ sought_as (role_of (entry_of e (k.first + i)).kind) a (sought e a h) (entry_of e (k.first + i)) rest
    unfolding sought sought_at
    sought_in i l one rest =
        let at = rw (add-one (sums (span_at e) k.first i)) at (spot_at (span_at e) k.first k.len i 1 l (omega arith) (omega arith)) in
        rw (at, misses_not k (suc (sums (span_at e) k.first i)) i 1 (omega arith) l)

    back_one : (n : ℕ) → n < k.items →
        sought e a (suc h) k (get_or (get_or (chains e a (suc h) k) n []) 0 0) (drop 1 (get_or (chains e a (suc h) k) n [])) ≡ Some n
    back_one n l =
        let y = lies (size_at e a) k.first k.len n (rw s.ok.items_are l) in
        let r = entry_of e (k.first + y.i) in
        let p = suc (sums (span_at e) k.first y.i) in
        let c = chained e a h p r (under y.i y.i_in) (no_repeat head e a v k s low y.i y.i_in) y.j y.j_in in
        let is : get_or (chains e a (suc h) k) n [] ≡ p ∷ c.rest =
        ap (λ m. get_or (chains e a (suc h) k) m []) y.is ∙ chain_at head e a v h k s low high y.i y.j y.i_in y.j_in ∙ c.chain in
        ap (λ w. sought e a (suc h) k (get_or w 0 0) (drop 1 w)) is
        ∙ sought_in y.i y.i_in c.one c.rest
        ∙ c.finds
        ∙ ap (λ m. Some (m + y.j)) (s.ok.before_is y.i y.i_in)
        ∙ ap Some (sym y.is)

    -- the position that is sought is that of the entry where the search ends
    module _ (q : ℕ) (rest : List ℕ) (n : ℕ) (long : length rest ≡ h) (t : sought e a (suc h) k q rest ≡ Some n) where
      sp : Spot
      sp = spot (span_at e) k.first k.len q

      meets : (misses k q sp ≡ false) × (sought_as (role_of (entry_of e sp.entry).kind) a (sought e a h) (entry_of e sp.entry) rest ≡ Some n)
      unfolding sought sought_at sp
      meets = cond_not _ n _ t

      where_it_is : Spotted (span_at e) k.first k.len q sp
      unfolding sp
      where_it_is = let m = misses_told k q sp meets.0 in spotted (span_at e) k.first k.len q m.0 m.1

      forth_one : (n < k.items) × (get_or (chains e a (suc h) k) n [] ≡ q ∷ rest)
      forth_one =
          let y = where_it_is in
          let r = entry_of e (k.first + y.i) in
          let p = suc (sums (span_at e) k.first y.i) in
          let here = rw y.entry_is at meets.1 in
          let f = found e a h p r (under y.i y.i_in) (no_repeat head e a v k s low y.i y.i_in) rest n long here in
          let one = f.one in
          let held = y.held in
          let some = y.some in
          let position = y.position in
          let start = s.ok.before_is y.i y.i_in in
          let is : n ≡ sums (size_at e a) k.first y.i + f.j = f.is ∙ ap (λ m. m + f.j) start in
          let at : p ≡ q = omega arith in
          let whole = s.ok.items_are in
          let inside = below_sum (size_at e a) k.first k.len y.i f.j y.i_in f.j_in in (
            omega arith,
            ap (λ m. get_or (chains e a (suc h) k) m []) is
                ∙ chain_at head e a v h k s low high y.i f.j y.i_in f.j_in ∙ f.chain ∙ ap (λ m. m ∷ rest) at,
          )

  pub undone : (h : ℕ) (k : Container) → Sound head e a k → k.height ≤ 9 → k.height ≤ h → Undone e a h k
  undone zero k s low high = let one = s.low in absurd (omega arith)
  undone (suc h) k s low high =
      let deeper : (u : Container) → Sound head e a u → u.height ≤ 9 → u.height ≤ h → Undone e a h u = λ u t nine l. undone h u t nine l in
      record {
        back = back_one h k s low high deeper;
        forth = λ q rest n long t. forth_one h k s low high deeper q rest n (omega arith) t;
      }

  -- the first position of a chain is one of the container's
  pub chain_head : (h : ℕ) (k : Container) (s : Sound head e a k) → k.height ≤ 9 → k.height ≤ suc h → (n : ℕ) → n < k.items →
      (q : ℕ) × (rest : List ℕ) × (get_or (chains e a (suc h) k) n [] ≡ q ∷ rest) × (1 ≤ q) × (q ≤ sums (span_at e) k.first k.len)
  chain_head h k s low high n l =
      let y = lies (size_at e a) k.first k.len n (rw s.ok.items_are l) in
      let r = entry_of e (k.first + y.i) in
      let p = suc (sums (span_at e) k.first y.i) in
      let c = chained e a h p r (under h k s low high (undone h) y.i y.i_in) (no_repeat head e a v k s low y.i y.i_in) y.j y.j_in in
      let one = c.one in
      let next = sums_snoc (span_at e) k.first y.i in
      let grow = sums_grow (span_at e) k.first (suc y.i) k.len y.i_in in
      (p, c.rest, ap (λ m. get_or (chains e a (suc h) k) m []) y.is ∙ chain_at head e a v h k s low high y.i y.j y.i_in y.j_in ∙ c.chain, omega arith, omega arith)
