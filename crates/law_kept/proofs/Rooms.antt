-- Room decides nothing but 17: in a larger room each table has the same rows, but that those of 17 hold less often, and each step leads to the same state.
-- Assumes nothing.
use Prim.Native.Nat.{ℕ, zero, suc, ◌-◌, ◌≤◌}
use mathlib.Core.Path.{◌≡◌, refl, sym, ◌∙◌, subst}
use mathlib.Core.Bool.{Bool, true, false, false≢true}
use mathlib.Core.List.{List, [], ◌∷◌, ◌++◌}
use native.Mathlib.Omega.{arith}
use lib.Dec.{eqb, leb, ltb}
use borrow.Author.Tests.{lt-ltb, ltb-true, le-leb, leb-true, eq-eqb, eqb-true}
use Rattle.book.specs.declared.Book.{Book}
use Rattle.base.specs.Or.{◌or◌}
use Rattle.base.specs.Faults.{Table}
use Rattle.command.specs.declared.Operation.{Operation}
use Rattle.command.specs.declared.Operation.TheVariants as operation
use Rattle.command.specs.declared.Definition.{Definition}
use Rattle.command.specs.declared.Definition.TheVariants as definition
use Rattle.command.specs.declared.Bracket.{Bracket}
use Rattle.command.specs.declared.Bracket.TheVariants as bracket
use Rattle.command.specs.declared.Deed.{Deed}
use Rattle.command.specs.declared.Deed.TheVariants as deed
use Rattle.command.specs.declared.Command.{Command}
use Rattle.command.specs.declared.Command.TheVariants as command
use Rattle.command.specs.declared.Command.TheVariants.{Note, End, Set, Operate, Coded, Select, Define, Contain, Attribute}
use Rattle.sequence.specs.declared.Placed.{Placed}
use Rattle.command_rules.specs.Settings.{setting_rules}
use Rattle.law_reading.specs.State.{Room, State}
use Rattle.law_reading.specs.Steps.{
  draw_step,
  flash_step,
  move_step,
  aperture_step,
  macro_step,
  block_start_step,
  repeat_start_step,
  operation_step,
  setting_step,
  coded_step,
  definition_step,
  bracket_step,
  step_of,
}
use Rattle.law_reading.specs.Reading.{step_at}
use Rattle.law_kept.specs.Kept.{Keeps, nothing, one, KeepsRules, FirstBroken, by, behind}
use Rattle.law_kept.specs.Rooms.{AtLeast}
use Rattle.law_kept.specs.Tables.{ad_rules, am_rules, operation_rules, definition_rules, bracket_rules, deed_rules, rules_of}
use Rattle.law_kept.specs.Order.{Broken, here, further, Lowest}
use Rattle.law_kept.proofs.Order.{rank_one, Ruled}
use Rattle.law_kept.proofs.Tables.{fault_ruled}

-- the same rows, but that those of 17 hold in the first table where they do in the second
data Looser : Table → Table → Type 0 where
  end : Looser [] []
  same : {row : Bool × ℕ} {rows rows' : Table} → Looser rows rows' → Looser (row ∷ rows) (row ∷ rows')
  roomier : {b b' : Bool} {rows rows' : Table} → (b' ≡ true → b ≡ true) → Looser rows rows' → Looser ((b, 17) ∷ rows) ((b', 17) ∷ rows')

-- what is broken of the second is broken of the first, and what is broken of the first and is not 17 is broken of the second
looser_broken : {n : ℕ} {rows rows' : Table} → Looser rows rows' → Broken n rows' → Broken n rows
looser_broken end b = elim b [ ]
looser_broken (same l) (here e q) = here e q
looser_broken (same l) (further b) = further (looser_broken l b)
looser_broken (roomier m l) (here e q) = here (m e) q
looser_broken (roomier m l) (further b) = further (looser_broken l b)

looser_kept : {n : ℕ} {rows rows' : Table} → Looser rows rows' → (n ≡ 17 → ⊥) → Broken n rows → Broken n rows'
looser_kept end other b = elim b [ ]
looser_kept (same l) other (here e q) = here e q
looser_kept (same l) other (further b) = further (looser_kept l other b)
looser_kept (roomier m l) other (here e q) = absurd (other (sym q))
looser_kept (roomier m l) other (further b) = further (looser_kept l other b)

-- so the lowest rule broken is the same, where it is not 17
looser_same : {rows rows' : Table} {m n : ℕ} → Looser rows rows' → Ruled rows m → Ruled rows' n → (m ≡ 17 → ⊥) → n ≡ m
looser_same {m = m} {n = n} l p q other = go m refl n refl
  where
    go : (a : ℕ) → m ≡ a → (b : ℕ) → n ≡ b → n ≡ m
    go zero e zero f = f ∙ sym e
    go zero e (suc b) f = absurd (p.lowest.none e n (looser_broken l (q.lowest.one (omega arith))))
    go (suc a) e zero f = absurd (q.lowest.none f m (looser_kept l other (p.lowest.one (omega arith))))
    go (suc a) e (suc b) f =
        let broken = q.lowest.one (omega arith) in
        rank_one n m (q.lowest.least m (looser_kept l other (p.lowest.one (omega arith)))) (p.lowest.least n (looser_broken l broken)) (q.known broken)

as_it_is : (rows : Table) → Looser rows rows
as_it_is [] = end
as_it_is (row ∷ rows) = same (as_it_is rows)

one_behind : (rows : Table) {more more' : Table} → Looser more more' → Looser (rows ++ more) (rows ++ more')
one_behind [] l = l
one_behind (row ∷ rows) l = same (one_behind rows l)

-- what is too little of a larger room is too little of a smaller one
either : {a b a' b' : Bool} → (a' ≡ true → a ≡ true) → (b' ≡ true → b ≡ true) → (a' or b') ≡ true → (a or b) ≡ true
unfolding ◌or◌
either {a = true} p q e = refl
either {a = false} {a' = true} p q e = absurd (false≢true (p refl))
either {a = false} {a' = false} p q e = q e

too_few : (small large used n : ℕ) → small ≤ large → ltb (large - used) n ≡ true → ltb (small - used) n ≡ true
too_few small large used n l e = let h = ltb-true (large - used) n e in lt-ltb (small - used) n (omega arith)

full : (small large n : ℕ) → small ≤ large → leb large n ≡ true → leb small n ≡ true
full small large n l e = let h = leb-true large n e in le-leb small n (omega arith)

none_left : (small large used : ℕ) → small ≤ large → eqb (large - used) 0 ≡ true → eqb (small - used) 0 ≡ true
none_left small large used l e = let h = eqb-true (large - used) 0 e in eq-eqb (small - used) 0 (omega arith)

module _ (small large : Room) (l : AtLeast small large) (t : List ℕ) (p : ℕ) where
  operation_loosens : (o : Operation) (s : State) → Looser (operation_rules small o s) (operation_rules large o s)
  unfolding operation_rules
  operation_loosens (operation.Draw x y o) s = same (same (same (same (same (same (same (roomier (too_few _ _ _ _ l.entries) end)))))))
  operation_loosens (operation.Move x y) s = as_it_is _
  operation_loosens (operation.Flash x y) s = same (same (same (same (same (same (same (roomier (too_few _ _ _ _ l.entries) end)))))))

  definition_loosens : (d : Definition) (s : State) → Looser (definition_rules small t d s) (definition_rules large t d s)
  unfolding definition_rules ad_rules am_rules
  definition_loosens (definition.Aperture n name ps rounded) s =
      same (same (same (roomier (either (full _ _ _ l.apertures) (too_few _ _ _ _ l.numbers)) end)))
  definition_loosens (definition.Macro name blocks deep rounded) s = same (same (same (roomier (full _ _ _ l.macros) end)))

  bracket_loosens : (b : Bracket) (s : State) → Looser (bracket_rules small b s) (bracket_rules large b s)
  unfolding bracket_rules
  bracket_loosens (bracket.BlockStart n) s = same (same (same (roomier (either (none_left _ _ _ l.entries) (full _ _ _ l.apertures)) end)))
  bracket_loosens bracket.BlockEnd s = as_it_is _
  bracket_loosens (bracket.RepeatStart nx ny dx dy rounded) s = same (same (roomier (none_left _ _ _ l.entries) end))
  bracket_loosens bracket.RepeatEnd s = as_it_is _

  loosens : (c : Command) (s : State) → Looser (rules_of small t c s) (rules_of large t c s)
  unfolding rules_of
  loosens (command.Broken flaw) s = as_it_is _
  loosens Note s = end
  loosens End s = as_it_is _
  loosens (Set x) s = as_it_is _
  loosens (Operate o) s = operation_loosens o s
  loosens (Coded code o) s = one_behind (setting_rules s.graphics code) (operation_loosens o (setting_step code s).next)
  loosens (Select n) s = as_it_is _
  loosens (Define d) s = definition_loosens d s
  loosens (Contain b) s = bracket_loosens b s
  loosens (Attribute d) s = as_it_is _

  same_fault : (c : Command) (s : State) → ((step_of small t p c s).fault ≡ 17 → ⊥) → (step_of large t p c s).fault ≡ (step_of small t p c s).fault
  same_fault c s n = looser_same (loosens c s) (fault_ruled small t p c s) (fault_ruled large t p c s) n

  -- the state after a command says nothing of room
  operation_next : (o : Operation) (s : State) → (operation_step large p o s).next ≡ (operation_step small p o s).next
  unfolding operation_step draw_step flash_step
  operation_next (operation.Draw x y o) s = refl
  operation_next (operation.Move x y) s = refl
  operation_next (operation.Flash x y) s = refl

  same_next : (c : Command) (s : State) → (step_of large t p c s).next ≡ (step_of small t p c s).next
  unfolding step_of coded_step definition_step bracket_step aperture_step macro_step block_start_step repeat_start_step
  same_next (command.Broken flaw) s = refl
  same_next Note s = refl
  same_next End s = refl
  same_next (Set x) s = refl
  same_next (Operate o) s = operation_next o s
  same_next (Coded code o) s = operation_next o (setting_step code s).next
  same_next (Select n) s = refl
  same_next (Define (definition.Aperture n name ps rounded)) s = refl
  same_next (Define (definition.Macro name blocks deep rounded)) s = refl
  same_next (Contain (bracket.BlockStart n)) s = refl
  same_next (Contain bracket.BlockEnd) s = refl
  same_next (Contain (bracket.RepeatStart nx ny dx dy rounded)) s = refl
  same_next (Contain bracket.RepeatEnd) s = refl
  same_next (Attribute d) s = refl

module _ {small large : Room} {file : List ℕ} (l : AtLeast small large) where
  keeps_larger : {s t : State} {cs : List Placed} → Keeps small file s cs t → Keeps large file s cs t
  keeps_larger nothing = nothing
  keeps_larger {s = s} {t = t} (one {c = c} {cs = cs} e k) =
      one (same_fault small large l _ c.place c.command s (λ q. absurd (let z : ◌≡◌ {A = ℕ} 0 17 = sym e ∙ q in omega arith)) ∙ e)
      (subst (λ (u : State). Keeps large file u cs t) (sym (same_next small large l _ c.place c.command s)) (keeps_larger k))

  -- a file that is accepted is accepted with the same state
  pub accepted_larger : {book : Book} {t : State} → KeepsRules book small file t → KeepsRules book large file t
  accepted_larger k = record { commands = keeps_larger k.commands; behind = k.behind }

  -- and one that is refused is refused as before, or was refused by 17
  pub refused_larger : {book : Book} {number place : ℕ} → FirstBroken book small file number place → (number ≡ 17 → ⊥) → FirstBroken book large file number place
  refused_larger (by k) n = by (record {
    before = k.before;
    command = k.command;
    after = k.after;
    order = k.order;
    state = k.state;
    kept = keeps_larger k.kept;
    fault = same_fault small large l _ k.command.place k.command.command k.state (λ q. n (sym k.fault ∙ q)) ∙ k.fault;
    some = k.some;
    stands = k.stands;
  })
  refused_larger (behind k) n = behind (record { state = k.state; kept = keeps_larger k.kept; fault = k.fault; some = k.some; stands = k.stands })
