-- A reading accepts exactly the files that keep the rules, and refuses a file by the first rule broken: each by induction over the commands.
-- Assumes nothing.
use Prim.Native.Nat.{ℕ, zero, suc, ◌≤◌}
use mathlib.Core.Path.{◌≡◌, refl, sym, ap, ◌∙◌, subst}
use mathlib.Core.Bool.{Bool, true, false}
use mathlib.Core.List.{List, [], ◌∷◌, ◌++◌, append-nil}
use mathlib.Core.Logic.{◌⊎◌, inl, inr, ⊎_elim}
use native.Mathlib.Omega.{arith}
use lib.Dec.{eqb}
use borrow.Author.Tests.{eq-eqb, ne_eqb, eqb-true, eqb-false}
use Rattle.book.specs.declared.Book.{Book}
use Rattle.sequence.specs.Commands.{commands_of}
use Rattle.sequence.specs.declared.Placed.{Placed}
use Rattle.sequence.specs.declared.Refusal.{Refusal}
use Rattle.law_reading.specs.State.{Room, State, begun}
use Rattle.law_reading.specs.Reading.{Answer, accepted, refused, step_at, read_on, reading}
use Rattle.law_kept.specs.Kept.{Keeps, nothing, one, KeepsRules, BrokenBy, BrokenBehind, FirstBroken, by, behind}

some_number : (n : ℕ) → eqb n 0 ≡ false → 1 ≤ n
some_number zero e = absurd (eqb-false 0 0 e refl)
some_number (suc n) e = omega arith

number_some : {m n : ℕ} → m ≡ n → 1 ≤ n → eqb m 0 ≡ false
number_some {m = m} e h = ne_eqb m 0 (λ z. let y : m ≡ 0 = z in absurd (omega arith))

module _ (room : Room) (file : List ℕ) where
  -- commands that are kept leave the rest to read
  pub read_kept : (s t : State) (cs ds : List Placed) (f : Refusal) → Keeps room file s cs t → read_on room file (cs ++ ds) f s ≡ read_on room file ds f t
  unfolding read_on
  read_kept s t cs ds f nothing = refl
  read_kept s t cs ds f (one {c = c} {cs = rest} e k) =
      rw (eq-eqb (step_at room file c s).fault 0 e, read_on) (read_kept (step_at room file c s).next t rest ds f k)

  -- a reading from a state on that accepts kept all, and there is no fault after
  read_accepts : (cs : List Placed) (f : Refusal) (s t : State) → read_on room file cs f s ≡ accepted t → Keeps room file s cs t × f.number ≡ 0
  unfolding read_on
  read_accepts [] f s t q = go (eqb f.number 0) refl q
    where
      go : (b : Bool) → eqb f.number 0 ≡ b → elim b [ true ↦ accepted s | false ↦ refused f.number f.place ] ≡ accepted t → Keeps room file s [] t × f.number ≡ 0
      go true e q = let same : s ≡ t = cc in (subst (λ (x : State). Keeps room file s [] x) same nothing, eqb-true f.number 0 e)
      go false e q = absurd (let z : ◌≡◌ {A = ℕ} 0 1 = cc in omega arith)
  read_accepts (c ∷ cs) f s t q = go (λ u. read_accepts cs f u t) (eqb (step_at room file c s).fault 0) refl q
    where
      go : ((u : State) → read_on room file cs f u ≡ accepted t → Keeps room file u cs t × f.number ≡ 0) → (b : Bool) → eqb (step_at room file c s).fault 0 ≡ b →
          elim b [ true ↦ read_on room file cs f (step_at room file c s).next | false ↦ refused (step_at room file c s).fault c.place ] ≡ accepted t →
          Keeps room file s (c ∷ cs) t × f.number ≡ 0
      go ih true e q = let k = ih (step_at room file c s).next q in (one (eqb-true (step_at room file c s).fault 0 e) k.0, k.1)
      go ih false e q = absurd (let z : ◌≡◌ {A = ℕ} 0 1 = cc in omega arith)

  -- what is first at fault from a state on
  abbrev First : List Placed → Refusal → State → ℕ → ℕ → Type 0
  First cs f s number place = BrokenBy room file cs s number place ⊎ BrokenBehind room file cs f s number place

  -- a command that is kept stands before it
  behind_one : {c : Placed} {cs : List Placed} {f : Refusal} {s : State} {number place : ℕ} → (step_at room file c s).fault ≡ 0 →
      First cs f (step_at room file c s).next number place → First (c ∷ cs) f s number place
  behind_one {c = c} e (inl k) = inl (record {
    before = c ∷ k.before;
    command = k.command;
    after = k.after;
    order = ap (λ l. c ∷ l) k.order;
    state = k.state;
    kept = one e k.kept;
    fault = k.fault;
    some = k.some;
    stands = k.stands;
  })
  behind_one e (inr k) = inr (record { state = k.state; kept = one e k.kept; fault = k.fault; some = k.some; stands = k.stands })

  -- a reading from a state on that refuses does so by what is first at fault
  read_refuses : (cs : List Placed) (f : Refusal) (s : State) (number place : ℕ) → read_on room file cs f s ≡ refused number place → First cs f s number place
  unfolding read_on
  read_refuses [] f s number place q = go (eqb f.number 0) refl q
    where
      go : (b : Bool) → eqb f.number 0 ≡ b → elim b [ true ↦ accepted s | false ↦ refused f.number f.place ] ≡ refused number place → First [] f s number place
      go true e q = absurd (let z : ◌≡◌ {A = ℕ} 0 1 = cc in omega arith)
      go false e q =
          let same : f.number ≡ number = cc in
          inr (record { state = s; kept = nothing; fault = same; some = subst (λ (n : ℕ). 1 ≤ n) same (some_number f.number e); stands = cc })
  read_refuses (c ∷ cs) f s number place q = go (λ u. read_refuses cs f u number place) (eqb (step_at room file c s).fault 0) refl q
    where
      go : ((u : State) → read_on room file cs f u ≡ refused number place → First cs f u number place) → (b : Bool) → eqb (step_at room file c s).fault 0 ≡ b →
          elim b [ true ↦ read_on room file cs f (step_at room file c s).next | false ↦ refused (step_at room file c s).fault c.place ] ≡ refused number place →
          First (c ∷ cs) f s number place
      go ih true e q = behind_one (eqb-true (step_at room file c s).fault 0 e) (ih (step_at room file c s).next q)
      go ih false e q =
          let same : (step_at room file c s).fault ≡ number = cc in
          inl (record {
            before = [];
            command = c;
            after = cs;
            order = refl;
            state = s;
            kept = nothing;
            fault = same;
            some = subst (λ (n : ℕ). 1 ≤ n) same (some_number (step_at room file c s).fault e);
            stands = cc;
          })

  -- and by nothing else
  by_refused : {cs : List Placed} {s : State} {number place : ℕ} (f : Refusal) → BrokenBy room file cs s number place → read_on room file cs f s ≡ refused number place
  unfolding read_on
  by_refused {s = s} f k =
      ap (λ l. read_on room file l f s) k.order
      ∙ read_kept s k.state k.before (k.command ∷ k.after) f k.kept
      ∙ rw (number_some k.fault k.some, read_on) (λ i. refused (k.fault i) (k.stands i))

  behind_refused : {cs : List Placed} {f : Refusal} {s : State} {number place : ℕ} → BrokenBehind room file cs f s number place → read_on room file cs f s ≡ refused number place
  unfolding read_on
  behind_refused {cs = cs} {f = f} {s = s} k =
      ap (λ l. read_on room file l f s) (sym (append-nil cs))
      ∙ read_kept s k.state cs [] f k.kept
      ∙ rw (number_some k.fault k.some, read_on) (λ i. refused (k.fault i) (k.stands i))

  kept_accepted : {cs : List Placed} {s t : State} (f : Refusal) → Keeps room file s cs t → f.number ≡ 0 → read_on room file cs f s ≡ accepted t
  unfolding read_on
  kept_accepted {cs = cs} {s = s} {t = t} f k e =
      ap (λ l. read_on room file l f s) (sym (append-nil cs))
      ∙ read_kept s t cs [] f k
      ∙ rw (eq-eqb f.number 0 e, read_on)

module _ (book : Book) (room : Room) (file : List ℕ) where
  -- accepted exactly when the rules are kept
  pub accepted_keeps : {t : State} → reading book room file ≡ accepted t → KeepsRules book room file t
  unfolding reading
  accepted_keeps {t = t} q = let k = read_accepts room file (commands_of book file).commands (commands_of book file).fault (begun book) t q in record { commands = k.0; behind = k.1 }

  pub keeps_accepted : {t : State} → KeepsRules book room file t → reading book room file ≡ accepted t
  unfolding reading
  keeps_accepted k = kept_accepted room file (commands_of book file).fault k.commands k.behind

  -- refused exactly by the first rule broken
  pub refused_first : {number place : ℕ} → reading book room file ≡ refused number place → FirstBroken book room file number place
  unfolding reading
  refused_first {number = number} {place = place} q =
      ⊎_elim (λ k. by k) (λ k. behind k) (read_refuses room file (commands_of book file).commands (commands_of book file).fault (begun book) number place q)

  pub first_refused : {number place : ℕ} → FirstBroken book room file number place → reading book room file ≡ refused number place
  unfolding reading
  first_refused (by k) = by_refused room file (commands_of book file).fault k
  first_refused (behind k) = behind_refused room file k

-- no rule has the number of an acceptance
pub broken_some : {book : Book} {room : Room} {file : List ℕ} {number place : ℕ} → FirstBroken book room file number place → 1 ≤ number
broken_some (by k) = k.some
broken_some (behind k) = k.some
