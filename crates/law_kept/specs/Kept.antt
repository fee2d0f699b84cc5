-- What it is to keep the rules, and which rule is the first broken: "Commands are taken in file order and the first at fault decides"
-- (01, Numbers the reader answers). `commands_of` cuts the file into its commands and says what is at fault after the last of them (1 to 4,
-- 30 and 18); `step_at` says what a command is at fault with in a state, 0 for nothing, and the state after it.
use Rattle.std.specs.Prelude.{ℕ, ◌≤◌, ◌≡◌, List, [], ◌∷◌, ◌++◌}
use Rattle.book.specs.declared.Book.{Book}
use Rattle.sequence.specs.Commands.{commands_of}
use Rattle.sequence.specs.declared.Placed.{Placed}
use Rattle.sequence.specs.declared.Refusal.{Refusal}
use Rattle.law_reading.specs.State.{Room, State, begun}
use Rattle.law_reading.specs.Reading.{step_at}

-- the commands, taken in order from a state, are each at no fault, and lead to a state
pub data Keeps (room : Room) (file : List ℕ) : State → List Placed → State → Type 0 where
  nothing : {s : State} → Keeps room file s [] s
  one : {s t : State} {c : Placed} {cs : List Placed} → (step_at room file c s).fault ≡ 0 → Keeps room file (step_at room file c s).next cs t →
      Keeps room file s (c ∷ cs) t

-- a command of the file is reached, all before it being kept, in this state
pub record Reached (book : Book) (room : Room) (file : List ℕ) (c : Placed) (s : State) : Type 0 where
  pub before : List Placed
  pub after : List Placed
  pub order : (commands_of book file).commands ≡ before ++ c ∷ after
  pub kept : Keeps room file (begun book) before s

-- the whole file keeps the rules, and this is what is known after it
pub record KeepsRules (book : Book) (room : Room) (file : List ℕ) (t : State) : Type 0 where
  pub commands : Keeps room file (begun book) (commands_of book file).commands t
  pub behind : (commands_of book file).fault.number ≡ 0

-- of commands taken from a state s, one is at fault, and all before it are kept
pub record BrokenBy (room : Room) (file : List ℕ) (cs : List Placed) (s : State) (number place : ℕ) : Type 0 where
  pub before : List Placed
  pub command : Placed
  pub after : List Placed
  pub order : cs ≡ before ++ command ∷ after
  pub state : State
  pub kept : Keeps room file s before state
  pub fault : (step_at room file command state).fault ≡ number
  pub some : 1 ≤ number
  pub stands : command.place ≡ place

-- all of them are kept, and the fault f of the bytes after them is one
pub record BrokenBehind (room : Room) (file : List ℕ) (cs : List Placed) (f : Refusal) (s : State) (number place : ℕ) : Type 0 where
  pub state : State
  pub kept : Keeps room file s cs state
  pub fault : f.number ≡ number
  pub some : 1 ≤ number
  pub stands : f.place ≡ place

-- the first rule that the file breaks has this number, and is broken at this place
pub data FirstBroken (book : Book) (room : Room) (file : List ℕ) (number place : ℕ) : Type 0 where
  by : BrokenBy room file (commands_of book file).commands (begun book) number place → FirstBroken book room file number place
  behind : BrokenBehind room file (commands_of book file).commands (commands_of book file).fault (begun book) number place → FirstBroken book room file number place
