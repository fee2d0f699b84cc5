-- What is open, in a store that agrees on the stack and on what is closed, is open there too.
-- Assumes nothing.
use Prim.Native.Nat.{ℕ, suc, ◌+◌, ◌-◌, ◌≤◌, ◌<◌}
use mathlib.Core.Path.{◌≡◌, sym, ap, ◌∙◌}
use mathlib.Core.Bool.{true}
use mathlib.Core.List.{List}
use native.Mathlib.Nat.{zero-add, le_refl}
use native.Mathlib.Omega.{arith}
use lib.Dec.{eqb, lit≤}
use Rattle.base.proofs.Run.{sums_cong}
use Rattle.place.specs.Parts.{Parts}
use Rattle.place.specs.Mark.{Around, top, within, block, repeat}
use Rattle.sheet.specs.Records.{role_of}
use Rattle.sheet.specs.Containers.{block_of, body_of}
use Rattle.sheet.specs.Valid.{is_block, ok_container, ok_block, is_repeat, body_length}
use Rattle.sheet.specs.declared.Aperture.{Aperture}
use Rattle.sheet.specs.declared.Entry.{Entry}
use Rattle.sheet.specs.declared.Role.TheVariants.{Uses, Repeats}
use Rattle.sheet.proofs.Conditions.{entry_use, entry_repeat}
use Rattle.sheet.proofs.Build.{ok_same, open_same}
use Rattle.sheet.specs.Open.{stacked}
use Rattle.sheet.specs.Parts.{parts}
use Rattle.law_open_store.specs.Open.{Level, opener, AtTop, Opened}
use Rattle.law_open_store.proofs.Frame.{Agrees, Kept, open_ok, block_kept, kept_parts, container_same}

-- the body of a closed repeat
pub body_kept : (e a : List ℕ) (closed n : ℕ) (r : Entry) → ok_container e a closed n (body_of r) ≡ true → Kept e a closed n (body_of r)
unfolding body_of
body_kept e a closed n r ok = record { low = lit≤ tt; high = lit≤ tt; ok = ok }

module _ (e a : List ℕ) (room closed high n limit : ℕ) (blocks_ok : (b : ℕ) → b < n → ok_block e a closed n b ≡ true)
    (n' closed' : ℕ) (e' a' : List ℕ) (agree : Agrees room closed high n limit e a e' a') (more : n ≤ n') (longer : closed ≤ closed') where
  -- the entries of an open container
  pub level_same : (start len h h' t : ℕ) (ps : Parts) → start + len ≤ high → h ≤ h' → (h ≡ 10 → h' ≡ 10) →
      ((i : ℕ) → i < len → role_of (stacked e room start i).kind ≡ Repeats → ok_container e a closed n (body_of (stacked e room start i)) ≡ true) →
      Level e a room n start len h t ps → Level e' a' room n' start len h' t ps
  unfolding block_of
  level_same start len h h' t ps inside rises tops repeats l = record {
    ok = ok_same a' n' h' (stacked e room start) (stacked e' room start) len t same (open_ok a a' n n' h h' more rises tops agree.same_blocks _ len t l.ok);
    shows = sym (open_same a a' (parts e a 9) (parts e' a' 9) (stacked e room start) (stacked e' room start) len same used
        (λ i li q. kept_parts e a closed n blocks_ok room high limit n' closed' e' a' agree more longer (body_of (stacked e room start i)) (body_kept e a closed n _ (repeats i li q)) 9))
        ∙ l.shows;
  }
    where
      same : (i : ℕ) → i < len → stacked e room start i ≡ stacked e' room start i
      same i li = agree.same_stack (start + i) (omega arith)

      used : (i : ℕ) → i < len → role_of (stacked e room start i).kind ≡ Uses →
          parts e a 9 (block_of a (stacked e room start i).who) ≡ parts e' a' 9 (block_of a' (stacked e room start i).who)
      used i li q =
          let u = entry_use a n h _ (l.ok.each_ok i li) q in
          kept_parts e a closed n blocks_ok room high limit n' closed' e' a' agree more longer _ (block_kept e a closed n blocks_ok _ u.who_in u.block).0 9
          ∙ ap (parts e' a' 9) (rw (agree.same_blocks _ u.who_in u.block))

  -- below the top level nothing repeats
  low_same : (start len h h' t : ℕ) (ps : Parts) → start + len ≤ high → h ≤ h' → h ≤ 9 →
      Level e a room n start len h t ps → Level e' a' room n' start len h' t ps
  low_same start len h h' t ps inside rises low l = level_same start len h h' t ps inside rises (λ q. absurd (omega arith))
      (λ i li q. let ten = (entry_repeat a n h _ (l.ok.each_ok i li) q).at_top in absurd (omega arith)) l

  opener_same : (start : ℕ) → 1 ≤ start → start ≤ high → opener e room start ≡ opener e' room start
  opener_same start some inside =
      let p : suc (start - 1) ≡ start = omega arith in
      rw p at (agree.same_stack (start - 1) (omega arith))

  top_same : (here : Parts) (hi start h t bodies : ℕ) → hi ≤ high →
      AtTop e a room n closed here hi start h t bodies → AtTop e' a' room n' closed' here hi start h t bodies
  unfolding body_length is_repeat
  top_same here hi start h t bodies inside o = record {
    starts = o.starts;
    height = o.height;
    level = level_same 0 hi 10 10 t here (omega arith) (le_refl _) (λ q. q) (λ i li q. rw (zero-add i) (o.bodies_ok i li (rw (zero-add i) at q))) o.level;
    bodies_ok = λ p l q.
        let s = agree.same_stack p (omega arith) in
        rw (← s) (container_same e a closed n blocks_ok room high limit n' closed' e' a' agree more longer _ (o.bodies_ok p l (rw (← s) at q)));
    lengths = sums_cong (λ p. body_length e' (room - suc p)) (λ p. body_length e (room - suc p)) 0 hi (λ i l. rw (zero-add i, agree.same_stack i (omega arith))) ∙ o.lengths;
  }

  pub opened_same : (around : Around) (here : Parts) (hi start h t bodies lim lim' : ℕ) → hi ≤ high → lim ≤ limit → lim ≤ lim' →
      Opened e a room n closed lim around here hi start h t bodies → Opened e' a' room n' closed' lim' around here hi start h t bodies
  unfolding Opened is_block
  opened_same top here hi start h t bodies lim lim' inside limits wider o = top_same here hi start h t bodies inside o
  opened_same (within (block m) before around) here hi start h t bodies lim lim' inside limits wider o =
      let b = o.0 in
      let below = b.below in
      let some = b.some in
      let lower = b.lower in
      let early = b.early in
      let s = agree.same_open (opener e room start).who (omega arith) in
      rw (← opener_same start some (omega arith)) (
        record {
          some = some;
          below = below;
          low = b.low;
          lower = lower;
          level = low_same start (hi - start) h h t here (omega arith) (le_refl _) (omega arith) b.level;
          early = omega arith;
          known = (let k = b.known in omega arith);
          number = ap (λ (p : Aperture). p.number) (sym s) ∙ b.number;
          not_yet = ap (λ (p : Aperture). eqb p.kind 6) (sym s) ∙ b.not_yet;
        },
        opened_same around before (start - 1) _ _ _ bodies (opener e room start).who (opener e room start).who (omega arith) (omega arith) (le_refl _) o.1,
      )
  opened_same (within (repeat r) before around) here hi start h t bodies lim lim' inside limits wider o =
      let b = o.0 in
      let below = b.below in
      let some = b.some in
      rw (← opener_same start some (omega arith)) (
        record {
          some = some;
          below = below;
          height = b.height;
          level = low_same start (hi - start) 9 9 t here (omega arith) (le_refl _) (le_refl _) b.level;
          says = b.says;
          counts = b.counts;
          dx_in = b.dx_in;
          dy_in = b.dy_in;
        },
        opened_same around before (start - 1) _ _ _ bodies lim lim' (omega arith) limits wider o.1,
      )
