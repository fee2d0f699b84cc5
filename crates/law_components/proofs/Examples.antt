-- Worked examples, by computation: source document 003's component, and one list for each thing that 02 [4] says of lists and faults.
-- Assumes nothing.
use Prim.Native.Nat.{ℕ}
use Prim.Native.String.{String}
use mathlib.Core.Path.{◌≡◌, refl}
use mathlib.Core.Bool.{Bool, true, false, cond}
use mathlib.Core.List.{List, [], ◌∷◌, ◌++◌, map}
use lib.Dec.{eqb, leb}
use lib.IntN.{ℤ, pos, negsuc}
use Rattle.base.specs.And.{◌and◌}
use Rattle.base.specs.Or.{◌or◌}
use Rattle.base.specs.Bytes.{same_bytes}
use Rattle.ints.specs.Ints.{eq_z}
use Rattle.text.specs.Pieces.{onto, parted}
use Rattle.text.specs.Text.{text}
use Rattle.points.specs.Points.{pt, same_point}
use Rattle.points.specs.declared.Point.{Point}
use Rattle.place.specs.declared.Item.{Item}
use Rattle.lines.specs.Line.{decimal_from, decimal_of}
use Rattle.law_components.specs.Values.{Value, none, held, is_held, bytes_of, field}
use Rattle.law_components.specs.Parts.{Texts, Part, is_drawn, role_of, part_of, is_main, is_pin, is_outline, designator_as, designator, no_texts, nothing}
use Rattle.law_components.specs.Records.{numeral, tabbed, main_row, pin_row, main_record, pin_record}
use Rattle.law_components.specs.Placements.{each, pin_as, pin_for, entry_as, entry_for, list_of}
use Rattle.law_components.specs.Outlines.{joins, began, ends_open}
use Rattle.law_components.specs.Faults.{lacks_as, lacks, has_main, repeats, fault_at, fault, fault_from, fault_of}
use Rattle.law_components.specs.Answer.{listed_among, is_sound, is_short, refusal_of}
use Rattle.law_components.specs.declared.Role.{Role}
use Rattle.law_components.specs.declared.Role.TheVariants.{Main, Pin, Outline, Other}
use Rattle.law_components.specs.declared.Fault.{Fault}

abbrev is : String → Value
is s = held (text s)

-- ---- 003, chapter 2, by items: their places are counted 1 to 7 here

abbrev item : ℕ → ℕ → Point → Point → ℕ → Item
item kind aperture start end place = record {
  kind = kind;
  aperture = aperture;
  clear = false;
  flip = false;
  angle = 0;
  scale = 1000000;
  start = start;
  end = end;
  centre = pt (pos 0) (pos 0);
  count = 0;
  place = place;
  outer = place;
}

abbrev origin : Point
origin = pt (pos 0) (pos 0)

abbrev board : List Item
board =
    item 4 10 origin (pt (pos 218250000) (negsuc 72999999)) 1
    ∷ item 1 11 (pt (pos 219250000) (negsuc 71309999)) (pt (pos 217250000) (negsuc 71309999)) 2
    ∷ item 1 11 (pt (pos 217250000) (negsuc 71309999)) (pt (pos 217250000) (negsuc 74689999)) 3
    ∷ item 1 11 (pt (pos 217250000) (negsuc 74689999)) (pt (pos 219250000) (negsuc 74689999)) 4
    ∷ item 1 11 (pt (pos 219250000) (negsuc 74689999)) (pt (pos 219250000) (negsuc 71309999)) 5
    ∷ item 4 12 origin (pt (pos 218250000) (negsuc 72044999)) 6
    ∷ item 4 13 origin (pt (pos 218250000) (negsuc 73954999)) 7
    ∷ []

abbrev function_of : ℕ → Value
function_of n = cond (eqb n 10) (is "ComponentMain") (cond (eqb n 11) (is "ComponentOutline,Courtyard") (is "ComponentPin"))

abbrev texts_at : ℕ → Texts
texts_at place = record {
  component = is "R301";
  rotation = is "-90";
  value = is "4K7";
  footprint = is "R_0805_2012Metric";
  mount = is "SMD";
  pin = cond (leb place 5) none (cond (eqb place 6) (is "R301,1") (is "R301,2"));
}

abbrev r301 : List Part
r301 = map (part_of function_of texts_at) board

r301_list :
    list_of r301
    ≡ text "R301\t218250000\t-73000000\t-90\t4K7\tR_0805_2012Metric\tSMD\n\t1\t218250000\t-72045000\n\t2\t218250000\t-73955000\n"
unfolding list_of each entry_for entry_as pin_for pin_as main_record main_row pin_record pin_row tabbed numeral decimal_of decimal_from designator designator_as field bytes_of parted onto part_of role_of is_drawn same_bytes ◌and◌ ◌or◌
r301_list = refl

r301_sound : fault_of r301 ≡ fault 0 0
unfolding fault_of fault_from fault_at lacks lacks_as is_held repeats has_main ends_open joins began same_point eq_z is_main is_outline designator designator_as field bytes_of parted onto part_of role_of is_drawn nothing same_bytes ◌and◌ ◌or◌
r301_sound = refl

-- 101 bytes: they fit into as many, and into no fewer; another layer, and work room that is short, are refused first
r301_answers :
    (refusal_of true (is_short false 2 r301) 101 r301 ≡ fault 0 0)
    × (refusal_of true (is_short false 2 r301) 100 r301 ≡ fault 17 0)
    × (refusal_of true (is_short false 1 r301) 101 r301 ≡ fault 17 0)
    × (refusal_of true (is_short true 2 r301) 101 r301 ≡ fault 17 0)
    × (refusal_of false (is_short true 2 r301) 100 r301 ≡ fault 34 0)
unfolding refusal_of is_short is_sound listed_among fault_of fault_from fault_at lacks lacks_as is_held repeats has_main ends_open joins began same_point eq_z is_main is_pin is_outline list_of each entry_for entry_as pin_for pin_as main_record main_row pin_record pin_row tabbed numeral decimal_of decimal_from designator designator_as field bytes_of parted onto part_of role_of is_drawn nothing same_bytes ◌and◌ ◌or◌
r301_answers = (refl, refl, refl, refl, refl)

-- ---- small lists: a place for each item, a point by two numbers

abbrev p : ℕ → ℕ → Point
p x y = pt (pos x) (pos y)

abbrev with : Value → Value → Texts
with component pin = record { component = component; rotation = none; value = none; footprint = none; mount = none; pin = pin }

abbrev main : ℕ → Value → Part
main place c = record { role = Main; start = origin; end = p place 0; place = place; texts = with c none }

abbrev pin : ℕ → Value → Part
pin place v = record { role = Pin; start = origin; end = p place 0; place = place; texts = with none v }

abbrev drawn : ℕ → Point → Point → Value → Part
drawn place start end c = record { role = Outline; start = start; end = end; place = place; texts = with c none }

abbrev other : ℕ → Part
other place = record { role = Other; start = origin; end = p place 0; place = place; texts = with none none }

abbrev lists : List (List Part × String)
lists =
    -- no item; an outline alone
    ([], "")
    ∷ (drawn 1 (p 1 1) (p 1 1) (is "U1") ∷ [], "")
    -- pins before their main, and after another's
    ∷ (pin 1 (is "U1,2,GND") ∷ main 2 (is "U1") ∷ main 3 (is "U2") ∷ pin 4 (is "U1,1") ∷ [], "U1\t2\t0\t\t\t\t\n\t2\t1\t0\n\t1\t4\t0\nU2\t3\t0\t\t\t\t\n")
    -- a pin without a main; one that differs by a letter's case
    ∷ (pin 1 (is "U3,1") ∷ pin 2 (is "u1,1") ∷ main 3 (is "U1") ∷ [], "U1\t3\t0\t\t\t\t\n")
    -- missing text is empty: a designator, a number; the two designators are the same
    ∷ (main 1 (is "") ∷ pin 2 (is "") ∷ [], "\t1\t0\t\t\t\t\n\t\t2\t0\n")
    -- quotes and escapes stay, and the second field is not listed
    ∷ (main 1 (is "\"R1\\u002C\",x") ∷ [], "\"R1\\u002C\"\t1\t0\t\t\t\t\n")
    ∷ []

lists_are : map (λ row. list_of row.0) lists ≡ map (λ row. text row.1) lists
unfolding list_of each entry_for entry_as pin_for pin_as main_record main_row pin_record pin_row tabbed numeral decimal_of decimal_from designator designator_as field bytes_of parted onto same_bytes ◌and◌ ◌or◌
lists_are = refl

abbrev faults : List (List Part × Fault)
faults =
    ([], fault 0 0)
    -- 26: a main, an outline without .C, a pin without .P; one that has a name without a value, and what is none of them
    ∷ (main 1 (is "U1") ∷ main 2 none ∷ [], fault 26 2)
    ∷ (drawn 1 (p 1 1) (p 1 1) none ∷ [], fault 26 1)
    ∷ (other 1 ∷ pin 2 none ∷ [], fault 26 2)
    ∷ (main 1 (is "") ∷ pin 2 (is "") ∷ other 3 ∷ [], fault 0 0)
    -- 27, at the second main of a designator
    ∷ (main 1 (is "U1") ∷ main 2 (is "U2") ∷ main 3 (is "U1,x") ∷ main 4 (is "U1") ∷ [], fault 27 3)
    -- 28, at the last item of the outline
    ∷ (drawn 1 (p 0 0) (p 1 0) (is "U1") ∷ drawn 2 (p 1 0) (p 1 1) (is "U1") ∷ other 3 ∷ [], fault 28 2)
    ∷ (drawn 1 (p 0 0) (p 1 0) (is "U1") ∷ drawn 2 (p 1 0) (p 1 1) (is "U1") ∷ drawn 3 (p 1 1) (p 0 0) (is "U1") ∷ [], fault 0 0)
    -- it decides before a 26 of the item after it, and after one of its own last item
    ∷ (drawn 1 (p 0 0) (p 1 0) (is "U1") ∷ main 2 none ∷ [], fault 28 1)
    ∷ (drawn 1 (p 0 0) (p 1 0) (is "U1") ∷ drawn 2 (p 1 0) (p 1 1) none ∷ main 3 none ∷ [], fault 26 2)
    -- two outlines that meet are one, whatever their designators; here it closes
    ∷ (drawn 1 (p 0 0) (p 1 0) (is "U1") ∷ drawn 2 (p 1 0) (p 0 0) (is "U2") ∷ [], fault 0 0)
    -- an item between parts them, and so does a gap
    ∷ (drawn 1 (p 0 0) (p 1 0) (is "U1") ∷ other 2 ∷ drawn 3 (p 1 0) (p 0 0) (is "U1") ∷ [], fault 28 1)
    ∷ (drawn 1 (p 0 0) (p 1 0) (is "U1") ∷ drawn 2 (p 2 0) (p 0 0) (is "U1") ∷ [], fault 28 1)
    -- a closed one that the next meets goes on: the two are one outline, open at its last item
    ∷ (drawn 1 (p 0 0) (p 0 0) (is "U1") ∷ drawn 2 (p 0 0) (p 1 0) (is "U2") ∷ [], fault 28 2)
    -- a full circle, and a line of length zero, close alone
    ∷ (drawn 1 (p 5 5) (p 5 5) (is "U1") ∷ drawn 2 (p 6 6) (p 6 6) (is "U1") ∷ [], fault 0 0)
    ∷ []

faults_are : map (λ row. fault_of row.0) faults ≡ map (λ row. row.1) faults
unfolding fault_of fault_from fault_at lacks lacks_as is_held repeats has_main ends_open joins began same_point eq_z is_main is_outline designator designator_as field bytes_of parted onto nothing same_bytes ◌and◌ ◌or◌
faults_are = refl
