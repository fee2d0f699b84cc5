-- What is heard after a command, from what it says of each name.
-- Assumes nothing.
use Prim.Native.Nat.{ℕ, ◌+◌, ◌/◌}
use mathlib.Core.Path.{◌≡◌, refl, ap, ◌∙◌, subst}
use mathlib.Core.Bool.{Bool}
use mathlib.Core.List.{List, [], ◌∷◌, ◌++◌}
use native.Mathlib.Omega.{arith}
use Rattle.text.specs.Text.{text}
use Rattle.command.specs.declared.Span.{Span}
use Rattle.sequence.specs.declared.Placed.{Placed}
use Rattle.base.specs.Or.{◌or◌}
use Rattle.attribute_call.specs.Sayings.{text_of, saying_of}
use Rattle.attribute_call.specs.declared.Saying.{Saying}
use Rattle.attribute_call.specs.declared.Kind.TheVariants as kind
use Rattle.attribute_call.specs.Attribute.{later}
use Rattle.index.specs.Tree.{record_width}
use Rattle.notes.specs.declared.Note.{Note}
use Rattle.layer.specs.Made.{made_of}
use Rattle.layer.specs.Attributes.{declares_as}
use Rattle.layer.specs.Work.{items_by, apertures_by, sets_of}
use Rattle.layer.specs.declared.Made.{Made}
use Rattle.layer.proofs.Held.{said_more}
use Rattle.layer.specs.Said.{value_said, said_by, texts_by}
use Rattle.notes.specs.Spans.{Follows}
use Rattle.notes.specs.Designators.{Grown, Hears}
use Rattle.notes.specs.Functions.{FunctionFollows}
use Rattle.notes.specs.declared.Designated.{Designated}
use Rattle.notes.proofs.Designators.{denotes_more}
use Rattle.noting.specs.Steps.{function_by, placed_at, noted_as, Puts, HearsBoth, TextFollows, HearsAll, Notes}
use Rattle.noting.specs.declared.Both.{Both}
use Rattle.noting.specs.declared.Heard.{Heard}
use Rattle.noting.specs.declared.Noting.{Noting}

-- two growths, one after the other
grown_then : {file s m t : List ℕ} {u v w a b : ℕ} → Grown file s m u v a → Grown file m t v w b → Grown file s t u w (a + b)
grown_then f g =
    let fm = f.more in
    let gm = g.more in
    let ff = f.few in
    let gf = g.few in
    record {
      table = g.table;
      long = g.long ∙ f.long;
      more = omega arith;
      few = omega arith;
      stays = λ i l. g.stays i (omega arith) ∙ f.stays i l;
    }

module _ (file : List ℕ) (c : Placed) (cs : List Placed) where
  pub component_more : (texts_by file (cs ++ (c ∷ []))).component ≡ value_said file (later (said_by file kind.Object (text ".C") cs) (saying_of file kind.Object (text ".C") c))
  unfolding texts_by
  component_more = ap (value_said file) (said_more file kind.Object (text ".C") cs c)

  component_is : (texts_by file cs).component ≡ value_said file (said_by file kind.Object (text ".C") cs)
  unfolding texts_by
  component_is = refl

  pin_more : (texts_by file (cs ++ (c ∷ []))).pin ≡ value_said file (later (said_by file kind.Object (text ".P") cs) (saying_of file kind.Object (text ".P") c))
  unfolding texts_by
  pin_more = ap (value_said file) (said_more file kind.Object (text ".P") cs c)

  pin_is : (texts_by file cs).pin ≡ value_said file (said_by file kind.Object (text ".P") cs)
  unfolding texts_by
  pin_is = refl

pub both_heard : (file : List ℕ) {s m t : List ℕ} {used k : ℕ} (n : Note) (c : Placed) {p q : Designated} →
    Hears file s m used n.component (saying_of file kind.Object (text ".C") c) p → Hears file m t p.used n.pin (saying_of file kind.Object (text ".P") c) q →
    k ≡ sets_of file c ".C" + sets_of file c ".P" → HearsBoth file s t used n c (record { component = p.word; pin = q.word; used = q.used; settings = k })
both_heard file {s} {m} {t} {used} {k} n c {p} {q} f g e =
    let fl = ap (λ (x : ℕ). x / record_width) f.grown.long in
    let ff = f.grown.few in
    record {
      settings = e;
      grown = rw e (grown_then f.grown g.grown);
      component = λ room cs d.
          rw (component_more file c cs)
          (denotes_more g.grown.more g.grown.stays (f.follows (omega arith) (said_by file kind.Object (text ".C") cs) (rw (component_is file c cs) at d)));
      pin = λ room cs d.
          rw (pin_more file c cs)
          (g.follows (omega arith) (said_by file kind.Object (text ".P") cs) (denotes_more f.grown.more f.grown.stays (rw (pin_is file c cs) at d)));
    }

pub text_follows : {file : List ℕ} {i : ℕ} (name : List ℕ) {p q : Span} (c : Placed) → Follows file i p q (saying_of file kind.Object name c) → TextFollows file i name p q c
text_follows {file} name c f = record { follows = λ cs h. rw (said_more file kind.Object name cs c) (f.follows (said_by file kind.Object name cs) h) }

pub function_follows : {file : List ℕ} {old r : ℕ} (c : Placed) → FunctionFollows file old r (saying_of file kind.Aperture (text ".AperFunction") c) →
    (cs : List Placed) → old ≡ function_by file cs → r ≡ function_by file (cs ++ (c ∷ []))
function_follows {file} c f cs h = rw (said_more file kind.Aperture (text ".AperFunction") cs c) (f.follows (said_by file kind.Aperture (text ".AperFunction") cs) h)

pub all_heard : {file s t : List ℕ} {used : ℕ} (n : Note) (c : Placed) {r : Both} {number rotation value footprint mount : Span} → HearsBoth file s t used n c r →
    TextFollows file 1 (text ".P") n.number number c → TextFollows file 0 (text ".CRot") n.rotation rotation c →
    TextFollows file 0 (text ".CVal") n.value value c → TextFollows file 0 (text ".CFtp") n.footprint footprint c →
    TextFollows file 0 (text ".CMnt") n.mount mount c →
    HearsAll file s t used n c (record {
      note = record { place = 0; component = r.component; pin = r.pin; number = number; rotation = rotation; value = value; footprint = footprint; mount = mount };
      used = r.used;
      settings = r.settings;
    })
unfolding texts_by
all_heard n c b p r v f m = record {
  settings = b.settings;
  grown = b.grown;
  means = λ room cs w. record {
    component = b.component room cs w.component;
    pin = b.pin room cs w.pin;
    number = p.follows cs w.number;
    rotation = r.follows cs w.rotation;
    value = v.follows cs w.value;
    footprint = f.follows cs w.footprint;
    mount = m.follows cs w.mount;
  };
}

-- ---- the whole command

pub command_noted : (file : List ℕ) {notes notes' names names' roles roles' t : List ℕ} (n : Noting) (c : Placed) {m : Made} {o u f k : ℕ} {p : Note} {d e : Bool} {h : Heard} {s : Saying} →
    m ≡ made_of c.command → p ≡ placed_at n.said c.place → (o ≡ n.operations + items_by m) × (notes' ≡ noted_as m notes n.operations p) →
    Puts m roles roles' n.roles u n.function → t ≡ text_of file c → d ≡ declares_as t m → e ≡ (n.component or d) →
    HearsAll file names names' n.names n.said c h → s ≡ saying_of file kind.Aperture (text ".AperFunction") c → FunctionFollows file n.function f s → k ≡ apertures_by m →
    Notes file notes notes' names names' roles roles' n c
    (record { said = h.note; function = f; component = e; operations = o; settings = n.settings + h.settings; apertures = n.apertures + k; names = h.used; roles = u })
command_noted file {notes} {notes'} {names} {names'} {roles} {roles'} {t} n c {m} {o} {u} {f} {k} {p} {d} {e} {h} {s} made placed noted rolled is declared either heard says follows counted =
    record {
      operations = rw made at noted.0;
      apertures = ap (λ (x : ℕ). n.apertures + x) (counted ∙ ap apertures_by made);
      component = either ∙ ap (λ (x : Bool). n.component or x) (declared ∙ (λ i. declares_as (is i) (made i)));
      notes_are = noted.1 ∙ (λ i. noted_as (made i) notes n.operations (placed i));
      roles_are = subst (λ (x : Made). Puts x roles roles' n.roles u n.function) made rolled;
      settings = ap (λ (x : ℕ). n.settings + x) heard.settings;
      grown = subst (Grown file names names' n.names h.used) heard.settings heard.grown;
      means = λ room cs w. heard.means (let q = heard.settings in omega arith) cs w;
      function = function_follows c (subst (FunctionFollows file n.function f) says follows);
    }
