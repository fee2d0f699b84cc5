-- What is known between two commands, cs being those before; and that it is known after one more.
-- Assumes nothing.
use Prim.Native.Nat.{ℕ, ◌+◌, ◌*◌, ◌/◌, ◌≤◌, ◌<◌}
use mathlib.Core.Path.{◌≡◌, refl, sym, ap, ◌∙◌}
use mathlib.Core.Bool.{Bool, true, false}
use mathlib.Core.List.{List, ◌∷◌, ◌++◌, []}
use native.Mathlib.Omega.{arith}
use lib.ListN.{length}
use Rattle.base.specs.Or.{◌or◌}
use Rattle.text.specs.Text.{text}
use Rattle.book.specs.declared.Book.{Book}
use Rattle.sequence.specs.Commands.{commands_of}
use Rattle.sequence.specs.declared.Placed.{Placed}
use Rattle.attribute_call.specs.Sayings.{text_of, saying_of}
use Rattle.attribute_call.specs.declared.Kind.TheVariants as kind
use Rattle.attribute_call.specs.declared.Saying.{Saying}
use Rattle.attribute_call.specs.declared.Saying.TheVariants.{Silent, Deletes, Sets}
use Rattle.index.specs.Tree.{record_width}
use Rattle.index.specs.Names.{name_of}
use Rattle.index.specs.Numbers.{Numbered}
use Rattle.notes.specs.Notes.{note_room}
use Rattle.notes.specs.declared.Note.{Note}
use Rattle.notes.proofs.Notes.{length_with}
use Rattle.layer.specs.Made.{made_of}
use Rattle.layer.specs.Attributes.{texts_at, declares_as, is_component_in}
use Rattle.layer.specs.Work.{items_by, apertures_by, set_by, sets_of, operations_in, apertures_in, designators_in}
use Rattle.layer.specs.declared.Made.{Made}
use Rattle.layer.specs.declared.Made.TheVariants.{Item, Aperture, File, Nothing}
use Rattle.layer.proofs.Held.{Below, below_more, below_snoc, texts_at_lem}
use Rattle.layer.specs.Said.{texts_by}
use Rattle.layer.proofs.Counts.{operations_append, apertures_append, designators_append, operations_one, apertures_one, designators_one}
use Rattle.notes.specs.Designators.{Designators}
use Rattle.notes.specs.Means.{Means}
use Rattle.noting.specs.Steps.{function_by, placed_at, noted_as, Puts, Notes}
use Rattle.noting.specs.declared.Noting.{Noting}
use Rattle.noting.proofs.NotesKnown.{NotesKnown, notes_step}
use Rattle.noting.proofs.RolesKnown.{RolesKnown, roles_step}

component_more : (file : List ℕ) (cs : List Placed) (c : Placed) → is_component_in file (cs ++ (c ∷ [])) ≡ (is_component_in file cs or declares_as (text_of file c) (made_of c.command))
unfolding is_component_in ◌or◌
component_more file [] c = go (declares_as (text_of file c) (made_of c.command))
  where
    go : (t : Bool) → (t or false) ≡ t
    go true = refl
    go false = refl
component_more file (d ∷ cs) c = go (declares_as (text_of file d) (made_of d.command)) (component_more file cs c)
  where
    go : (t : Bool) → is_component_in file (cs ++ (c ∷ [])) ≡ (is_component_in file cs or declares_as (text_of file c) (made_of c.command)) →
        (t or is_component_in file (cs ++ (c ∷ []))) ≡ ((t or is_component_in file cs) or declares_as (text_of file c) (made_of c.command))
    go true ih = refl
    go false ih = ih

pub record Known (book : Book) (file notes names roles : List ℕ) (n : Noting) (at : ℕ) (cs : List Placed) : Type 0 where
  pub operations : n.operations ≡ operations_in cs
  pub settings : n.settings ≡ designators_in file cs
  pub apertures : n.apertures ≡ apertures_in cs
  pub component : n.component ≡ is_component_in file cs
  pub few_operations : n.operations ≤ at
  pub few_settings : n.settings ≤ 2 * at
  pub few_apertures : n.apertures ≤ at
  pub table : Designators file names n.names
  pub few_names : n.names ≤ n.settings
  pub numbered : Numbered roles n.roles
  pub few_roles : n.roles ≤ n.apertures
  pub below : Below at cs
  pub function : n.function ≡ function_by file cs
  pub said : n.settings ≤ length names / record_width → Means file (name_of file names) n.names n.said (texts_by file cs)
  pub noted : n.operations ≤ note_room notes → n.settings ≤ length names / record_width → NotesKnown book file notes (name_of file names) n.names n.operations at cs
  pub known : n.apertures ≤ length roles / record_width → RolesKnown file roles n.roles cs

-- a command makes one thing at most, and sets a name once at most
items_few : (m : Made) → items_by m ≤ 1
unfolding items_by
items_few Item = omega arith
items_few (Aperture n) = omega arith
items_few (File a b) = omega arith
items_few Nothing = omega arith

pub apertures_few : (m : Made) → apertures_by m ≤ 1
unfolding apertures_by
apertures_few Item = omega arith
apertures_few (Aperture n) = omega arith
apertures_few (File a b) = omega arith
apertures_few Nothing = omega arith

pub set_few : (s : Saying) → set_by s ≤ 1
unfolding set_by
set_few Silent = omega arith
set_few Deletes = omega arith
set_few (Sets place length) = omega arith

-- the table of apertures after a command
puts_numbered : (m : Made) (s s' : List ℕ) (used used' function : ℕ) → Numbered s used → Puts m s s' used used' function → Numbered s' used' × (length s' ≡ length s) × (used' ≤ used + apertures_by m)
unfolding Puts apertures_by
puts_numbered Item s s' used used' function t p = (rw (p.0, p.1) t, ap length p.0, let q = p.1 in omega arith)
puts_numbered (Aperture n) s s' used used' function t p = (p.numbered, p.long, p.few)
puts_numbered (File a b) s s' used used' function t p = (rw (p.0, p.1) t, ap length p.0, let q = p.1 in omega arith)
puts_numbered Nothing s s' used used' function t p = (rw (p.0, p.1) t, ap length p.0, let q = p.1 in omega arith)

noted_long : (m : Made) (s : List ℕ) (i : ℕ) (n : Note) → length (noted_as m s i n) ≡ length s
unfolding noted_as
noted_long Item s i n = length_with s i n
noted_long (Aperture m) s i n = refl
noted_long (File a b) s i n = refl
noted_long Nothing s i n = refl

module _ (book : Book) (file : List ℕ) (cs : List Placed) (c : Placed) (post : List Placed) (order : (commands_of book file).commands ≡ cs ++ (c ∷ post))
    (sound : (commands_of book file).fault.number ≡ 0) {notes notes' names names' roles roles' : List ℕ} {n r : Noting} {at next : ℕ}
    (from : at ≤ c.place) (to : c.place < next) (k : Known book file notes names roles n at cs) (s : Notes file notes notes' names names' roles roles' n c r) where
  abbrev m : Made
  m = made_of c.command

  abbrev sets : ℕ
  sets = sets_of file c ".C" + sets_of file c ".P"

  sets_few : sets ≤ 2
  sets_few = let p = set_few (saying_of file kind.Object (text ".C") c) in let q = set_few (saying_of file kind.Object (text ".P") c) in omega arith

  tables : Numbered roles' r.roles × (length roles' ≡ length roles) × (r.roles ≤ n.roles + apertures_by m)
  tables = puts_numbered m roles roles' n.roles r.roles n.function k.numbered s.roles_are

  names_room : r.settings ≤ length names' / record_width → n.settings + sets ≤ length names / record_width
  names_room h = let l = ap (λ (x : ℕ). x / record_width) s.grown.long in let q = s.settings in omega arith

  said_before : r.settings ≤ length names' / record_width → Means file (name_of file names) n.names n.said (texts_by file cs)
  said_before h = k.said (let l = names_room h in omega arith)

  said_there : r.settings ≤ length names' / record_width → Means file (name_of file names) n.names n.said (texts_at book file c.place)
  said_there h = rw (texts_at_lem book file cs c post order sound (below_more from k.below)) (said_before h)

  notes_room : r.operations ≤ note_room notes' → n.operations + items_by m ≤ note_room notes
  notes_room h =
      let l = ap (λ (x : ℕ). x / 13) (ap length s.notes_are ∙ noted_long m notes n.operations (placed_at n.said c.place)) in
      let q = s.operations in
      omega arith

  roles_room : r.apertures ≤ length roles' / record_width → n.roles + apertures_by m ≤ length roles / record_width
  roles_room h =
      let l = ap (λ (x : ℕ). x / record_width) tables.1 in
      let q = s.apertures in
      let f = k.few_roles in
      omega arith

  noted_next : r.operations ≤ note_room notes' → r.settings ≤ length names' / record_width → NotesKnown book file notes' (name_of file names') r.names r.operations next (cs ++ (c ∷ []))
  noted_next h g =
      let o = notes_room h in
      let t = names_room g in
      rw s.operations
      (notes_step book file notes c s.grown.more s.grown.stays from to (k.noted (omega arith) (omega arith)) n.said (said_there g) m refl notes' s.notes_are o)

  known_next : r.apertures ≤ length roles' / record_width → RolesKnown file roles' r.roles (cs ++ (c ∷ []))
  known_next h =
      let l = ap (λ (x : ℕ). x / record_width) tables.1 in
      let q = s.apertures in
      roles_step file cs c m refl s.roles_are k.function (roles_room h) (k.known (omega arith))

  pub known_more : Known book file notes' names' roles' r next (cs ++ (c ∷ []))
  known_more =
      let ko = k.operations in
      let ka = k.apertures in
      let ks = k.settings in
      let so = s.operations in
      let sa = s.apertures in
      let ss = s.settings in
      let fo = k.few_operations in
      let fa = k.few_apertures in
      let fs = k.few_settings in
      let io = items_few m in
      let ia = apertures_few m in
      let is = sets_few in
      let gf = s.grown.few in
      let kn = k.few_names in
      let kr = k.few_roles in
      let tr = tables.2 in
      record {
        operations = omega (arith, operations_append cs (c ∷ []), operations_one c);
        settings = omega (arith, designators_append file cs (c ∷ []), designators_one c file);
        apertures = omega (arith, apertures_append cs (c ∷ []), apertures_one c);
        component = s.component ∙ ap (λ (t : Bool). t or declares_as (text_of file c) m) k.component ∙ sym (component_more file cs c);
        few_operations = omega arith;
        few_settings = omega arith;
        few_apertures = omega arith;
        table = s.grown.table;
        few_names = omega arith;
        numbered = tables.0;
        few_roles = omega arith;
        below = below_snoc c (below_more (omega arith) k.below) to;
        function = s.function cs k.function;
        said = λ h. s.means (let t = names_room h in omega arith) cs (said_before h);
        noted = noted_next;
        known = known_next;
      }
