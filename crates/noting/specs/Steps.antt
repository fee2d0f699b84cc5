-- What one command adds to what is noted.
use Rattle.std.specs.Prelude.{ℕ, ◌+◌, ◌*◌, ◌/◌, ◌≤◌, ◌<◌, ◌≡◌, false, List, [], ◌∷◌, ◌++◌, length, get_or}
use Rattle.base.specs.Or.{◌or◌}
use Rattle.text.specs.Text.{text}
use Rattle.command.specs.declared.Span.{Span}
use Rattle.sequence.specs.declared.Placed.{Placed}
use Rattle.attribute_call.specs.Sayings.{text_of}
use Rattle.attribute_call.specs.declared.Kind.TheVariants as kind
use Rattle.index.specs.Tree.{record_width}
use Rattle.index.specs.Names.{name_of}
use Rattle.index.specs.Numbers.{number_of, Numbered}
use Rattle.law_components.specs.Values.{field}
use Rattle.notes.specs.Notes.{with_note}
use Rattle.notes.specs.declared.Note.{Note}
use Rattle.layer.specs.Made.{made_of}
use Rattle.layer.specs.Attributes.{declares_as}
use Rattle.layer.specs.Work.{items_by, apertures_by, sets_of}
use Rattle.layer.specs.declared.Made.{Made}
use Rattle.layer.specs.declared.Made.TheVariants.{Item, Aperture, File, Nothing}
use Rattle.layer.specs.Said.{value_said, said_by, texts_by}
use Rattle.notes.specs.Spans.{SpanIs}
use Rattle.notes.specs.Designators.{Denotes, Grown}
use Rattle.notes.specs.Functions.{function_number}
use Rattle.notes.specs.Means.{Means}
use Rattle.noting.specs.declared.Both.{Both}
use Rattle.noting.specs.declared.Heard.{Heard}
use Rattle.noting.specs.declared.Noting.{Noting}

-- what `.AperFunction` makes of an aperture after these commands
abbrev pub function_by : List ℕ → List Placed → ℕ
function_by file cs = function_number (value_said file (said_by file kind.Aperture (text ".AperFunction") cs))

-- what is held, noted at a place
unfoldable pub placed_at : Note → ℕ → Note
placed_at n place =
    record {
      place = place;
      component = n.component;
      pin = n.pin;
      number = n.number;
      rotation = n.rotation;
      value = n.value;
      footprint = n.footprint;
      mount = n.mount;
    }

-- the notes after a command: one more of D01 and D03
unfoldable pub noted_as : Made → List ℕ → ℕ → Note → List ℕ
noted_as Item s i n = with_note s i n
noted_as (Aperture m) s i n = s
noted_as (File name value) s i n = s
noted_as Nothing s i n = s

-- an aperture more, with what it is for, where its number is new and there is room; s' is the table after it, of used' records
pub record Put (s s' : List ℕ) (used used' number function : ℕ) : Type 0 where
  pub numbered : Numbered s' used'
  pub long : length s' ≡ length s
  pub more : used ≤ used'
  pub few : used' ≤ used + 1
  pub stays : (i : ℕ) → i < used → (number_of s' i ≡ number_of s i) × (get_or s' (i * record_width + 1) 0 ≡ get_or s (i * record_width + 1) 0)
  pub others : (i : ℕ) → used ≤ i → i < used' → (number_of s' i ≡ number) × (get_or s' (i * record_width + 1) 0 ≡ function)
  -- the number was there, or is there now
  pub there : used < length s / record_width → ((j : ℕ) → j < used' → number_of s' j ≡ number → ⊥) → ⊥
  pub new : used < used' → (j : ℕ) → j < used → number_of s j ≡ number → ⊥

unfoldable pub Puts : Made → List ℕ → List ℕ → ℕ → ℕ → ℕ → Type 0
Puts Item s s' used used' function = (s' ≡ s) × (used' ≡ used)
Puts (Aperture number) s s' used used' function = Put s s' used used' number function
Puts (File name value) s s' used used' function = (s' ≡ s) × (used' ≡ used)
Puts Nothing s s' used used' function = (s' ≡ s) × (used' ≡ used)

-- both designators after a command
pub record HearsBoth (file s s' : List ℕ) (used : ℕ) (n : Note) (c : Placed) (r : Both) : Type 0 where
  pub settings : r.settings ≡ sets_of file c ".C" + sets_of file c ".P"
  pub grown : Grown file s s' used r.used r.settings
  pub component : used + r.settings ≤ length s / record_width → (cs : List Placed) →
      Denotes (name_of file s) used n.component (texts_by file cs).component → Denotes (name_of file s') r.used r.component (texts_by file (cs ++ (c ∷ []))).component
  pub pin : used + r.settings ≤ length s / record_width → (cs : List Placed) →
      Denotes (name_of file s) used n.pin (texts_by file cs).pin → Denotes (name_of file s') r.used r.pin (texts_by file (cs ++ (c ∷ []))).pin

-- field i of an object attribute
pub record TextFollows (file : List ℕ) (i : ℕ) (name : List ℕ) (p q : Span) (c : Placed) : Type 0 where
  pub follows : (cs : List Placed) → SpanIs file p (field i (value_said file (said_by file kind.Object name cs))) →
      SpanIs file q (field i (value_said file (said_by file kind.Object name (cs ++ (c ∷ [])))))

-- all texts
pub record HearsAll (file s s' : List ℕ) (used : ℕ) (n : Note) (c : Placed) (r : Heard) : Type 0 where
  pub settings : r.settings ≡ sets_of file c ".C" + sets_of file c ".P"
  pub grown : Grown file s s' used r.used r.settings
  pub means : used + r.settings ≤ length s / record_width → (cs : List Placed) →
      Means file (name_of file s) used n (texts_by file cs) → Means file (name_of file s') r.used r.note (texts_by file (cs ++ (c ∷ [])))

-- the counts leave room for a command more
pub record Small (n : Noting) : Type 0 where
  pub operations : n.operations ≤ 16777216
  pub settings : n.settings ≤ 33554432
  pub apertures : n.apertures ≤ 16777216

-- the whole command, from n to r
pub record Notes (file notes notes' names names' roles roles' : List ℕ) (n : Noting) (c : Placed) (r : Noting) : Type 0 where
  pub operations : r.operations ≡ n.operations + items_by (made_of c.command)
  pub apertures : r.apertures ≡ n.apertures + apertures_by (made_of c.command)
  pub component : r.component ≡ (n.component or declares_as (text_of file c) (made_of c.command))
  pub notes_are : notes' ≡ noted_as (made_of c.command) notes n.operations (placed_at n.said c.place)
  pub roles_are : Puts (made_of c.command) roles roles' n.roles r.roles n.function
  pub settings : r.settings ≡ n.settings + (sets_of file c ".C" + sets_of file c ".P")
  pub grown : Grown file names names' n.names r.names (sets_of file c ".C" + sets_of file c ".P")
  pub means : n.names + (sets_of file c ".C" + sets_of file c ".P") ≤ length names / record_width → (cs : List Placed) →
      Means file (name_of file names) n.names n.said (texts_by file cs) → Means file (name_of file names') r.names r.said (texts_by file (cs ++ (c ∷ [])))
  pub function : (cs : List Placed) → n.function ≡ function_by file cs → r.function ≡ function_by file (cs ++ (c ∷ []))

-- before any command
abbrev pub nowhere : Span
nowhere = record { from = 0; to = 0 }

unfoldable pub begun : Noting
begun =
    record {
      said = record { place = 0; component = 0; pin = 0; number = nowhere; rotation = nowhere; value = nowhere; footprint = nowhere; mount = nowhere };
      function = 0;
      component = false;
      operations = 0;
      settings = 0;
      apertures = 0;
      names = 0;
      roles = 0;
    }
