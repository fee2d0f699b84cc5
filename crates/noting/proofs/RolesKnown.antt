-- What apertures are for, as it is known between two commands, and that it is known after one more.
-- Assumes nothing.
use Prim.Native.Nat.{ℕ, ◌+◌, ◌*◌, ◌/◌, ◌≤◌, ◌<◌}
use mathlib.Core.Path.{◌≡◌, refl, sym, ap, ◌∙◌}
use mathlib.Core.Bool.{Bool, true, false, false≢true}
use mathlib.Core.List.{List, ◌∷◌, ◌++◌, []}
use native.Mathlib.Omega.{arith}
use lib.Dec.{eqb, ltb}
use lib.ListN.{length, get_or}
use borrow.Author.Tests.{eqb-true, eqb-false, eq-eqb, ltb-true, ltb-false}
use Rattle.base.specs.Or.{◌or◌}
use Rattle.text.specs.Text.{text}
use Rattle.command.specs.declared.Span.{Span}
use Rattle.sequence.specs.declared.Placed.{Placed}
use Rattle.attribute_call.specs.declared.Kind.TheVariants as kind
use Rattle.attribute_call.specs.declared.Saying.TheVariants.{Silent}
use Rattle.index.specs.Tree.{record_width}
use Rattle.index.specs.Numbers.{number_of}
use Rattle.layer.specs.Made.{made_of}
use Rattle.layer.specs.Attributes.{is_aperture_as, function_in}
use Rattle.layer.specs.Work.{apertures_by}
use Rattle.layer.specs.declared.Made.{Made}
use Rattle.layer.specs.declared.Made.TheVariants.{Item, Aperture, File, Nothing}
use Rattle.layer.specs.Said.{said_by}
use Rattle.notes.specs.Functions.{function_number}
use Rattle.noting.specs.Steps.{function_by, Put, Puts}
use Rattle.noting.proofs.Functions.{has_aperture, has_append, function_found, function_behind, function_here}

pub record RolesKnown (file roles : List ℕ) (used : ℕ) (cs : List Placed) : Type 0 where
  pub found : (n : ℕ) → has_aperture n cs ≡ true → (i : ℕ) × (i < used) × (number_of roles i ≡ n) × (get_or roles (i * record_width + 1) 0 ≡ function_number (function_in file n Silent cs))
  pub fresh : (n : ℕ) → has_aperture n cs ≡ false → (j : ℕ) → j < used → number_of roles j ≡ n → ⊥

or_false : (a b : Bool) → (a or b) ≡ false → (a ≡ false) × (b ≡ false)
unfolding ◌or◌
or_false true b e = absurd (false≢true (sym e))
or_false false b e = (refl, e)

module _ (file : List ℕ) (cs : List Placed) (c : Placed) where
  not_before : (n : ℕ) → has_aperture n (cs ++ (c ∷ [])) ≡ false → (has_aperture n cs ≡ false) × (is_aperture_as n (made_of c.command) ≡ false)
  not_before n e = or_false _ _ (sym (has_append n cs c) ∙ e)

  here_if : (n : ℕ) → has_aperture n (cs ++ (c ∷ [])) ≡ true → has_aperture n cs ≡ false → is_aperture_as n (made_of c.command) ≡ true
  unfolding ◌or◌
  here_if n e f = sym (has_append n cs c ∙ ap (λ (t : Bool). t or is_aperture_as n (made_of c.command)) f) ∙ e

  roles_stay : {roles : List ℕ} {used : ℕ} → ((n : ℕ) → is_aperture_as n (made_of c.command) ≡ false) → RolesKnown file roles used cs → RolesKnown file roles used (cs ++ (c ∷ []))
  roles_stay {roles} {used} other k = record {
    found = λ n e. at n e (has_aperture n cs) refl;
    fresh = λ n e. k.fresh n (not_before n e).0;
  }
    where
      at : (n : ℕ) → has_aperture n (cs ++ (c ∷ [])) ≡ true → (t : Bool) → has_aperture n cs ≡ t →
          (i : ℕ) × (i < used) × (number_of roles i ≡ n) × (get_or roles (i * record_width + 1) 0 ≡ function_number (function_in file n Silent (cs ++ (c ∷ []))))
      at n e true h = let f = k.found n h in (f.0, f.1, f.2, f.3 ∙ ap function_number (sym (function_found file n Silent cs (c ∷ []) h)))
      at n e false h = absurd (false≢true (sym (other n) ∙ here_if n e h))

  module _ {s s' : List ℕ} {used used' m function : ℕ} (made : made_of c.command ≡ Aperture m) (p : Put s s' used used' m function) (says : function ≡ function_by file cs)
      (room : used < length s / record_width) (k : RolesKnown file s used cs) where
    same_number : (n : ℕ) → is_aperture_as n (made_of c.command) ≡ true → n ≡ m
    unfolding is_aperture_as
    same_number n e = eqb-true n m (sym (ap (is_aperture_as n) made) ∙ e)

    is_number_lem : is_aperture_as m (made_of c.command) ≡ true
    unfolding is_aperture_as
    is_number_lem = ap (is_aperture_as m) made ∙ eq-eqb m m refl

    pub roles_put : RolesKnown file s' used' (cs ++ (c ∷ []))
    roles_put = record { found = λ n e. at n e (has_aperture n cs) refl; fresh = λ n e j l q. none n e j l q (ltb j used) refl }
      where
        new_function : (n : ℕ) → has_aperture n cs ≡ false → is_aperture_as n (made_of c.command) ≡ true → function ≡ function_number (function_in file n Silent (cs ++ (c ∷ [])))
        new_function n h e =
            says ∙ ap function_number (sym (function_behind file n Silent cs (c ∷ []) h ∙ function_here file n (said_by file kind.Aperture (text ".AperFunction") cs) c e))

        added : (n : ℕ) → has_aperture n cs ≡ false → n ≡ m → (t : Bool) → eqb used used' ≡ t → used < used'
        added n h q true e = absurd (p.there room (λ j l f. k.fresh n h j (let u = eqb-true used used' e in omega arith) (sym (p.stays j (let u = eqb-true used used' e in omega arith)).0 ∙ f ∙ sym q)))
        added n h q false e = let u = eqb-false used used' e in let v = p.more in omega arith

        at : (n : ℕ) → has_aperture n (cs ++ (c ∷ [])) ≡ true → (t : Bool) → has_aperture n cs ≡ t →
            (i : ℕ) × (i < used') × (number_of s' i ≡ n) × (get_or s' (i * record_width + 1) 0 ≡ function_number (function_in file n Silent (cs ++ (c ∷ []))))
        at n e true h =
            let f = k.found n h in
            let st = p.stays f.0 f.1 in
            (f.0, (let u = p.more in let v = f.1 in omega arith), st.0 ∙ f.2, st.1 ∙ f.3 ∙ ap function_number (sym (function_found file n Silent cs (c ∷ []) h)))
        at n e false h =
            let here = here_if n e h in
            let q = same_number n here in
            let l = added n h q (eqb used used') refl in
            let o = p.others used (omega arith) l in
            (used, l, o.0 ∙ sym q, o.1 ∙ new_function n h here)

        none : (n : ℕ) → has_aperture n (cs ++ (c ∷ [])) ≡ false → (j : ℕ) → j < used' → number_of s' j ≡ n → (t : Bool) → ltb j used ≡ t → ⊥
        none n e j l q true h = let u = ltb-true j used h in k.fresh n (not_before n e).0 j u (sym (p.stays j u).0 ∙ q)
        none n e j l q false h =
            let o = p.others j (ltb-false j used h) l in
            let same : m ≡ n = sym o.0 ∙ q in
            false≢true (sym (not_before n e).1 ∙ ap (λ (x : ℕ). is_aperture_as x (made_of c.command)) (sym same) ∙ is_number_lem)

-- what is no AD has no number
item_none : (n : ℕ) → is_aperture_as n Item ≡ false
unfolding is_aperture_as
item_none n = refl

file_none : (a b : Span) (n : ℕ) → is_aperture_as n (File a b) ≡ false
unfolding is_aperture_as
file_none a b n = refl

nothing_none : (n : ℕ) → is_aperture_as n Nothing ≡ false
unfolding is_aperture_as
nothing_none n = refl

pub roles_step : (file : List ℕ) (cs : List Placed) (c : Placed) {s s' : List ℕ} {used used' function : ℕ} (m : Made) → made_of c.command ≡ m → Puts m s s' used used' function →
    function ≡ function_by file cs → used + apertures_by m ≤ length s / record_width → RolesKnown file s used cs → RolesKnown file s' used' (cs ++ (c ∷ []))
unfolding Puts apertures_by
roles_step file cs c {s} {s'} {used} {used'} {function} m made p says room k = go m made p room
  where
    no_number : (m : Made) → made_of c.command ≡ m → ((n : ℕ) → is_aperture_as n m ≡ false) → (s' ≡ s) × (used' ≡ used) → RolesKnown file s' used' (cs ++ (c ∷ []))
    no_number m made none same = rw (same.0, same.1) (roles_stay file cs c (λ n. ap (is_aperture_as n) made ∙ none n) k)

    go : (m : Made) → made_of c.command ≡ m → Puts m s s' used used' function → used + apertures_by m ≤ length s / record_width → RolesKnown file s' used' (cs ++ (c ∷ []))
    go Item made p room = no_number Item made item_none p
    go (Aperture number) made p room = roles_put file cs c made p says (omega arith) k
    go (File a b) made p room = no_number (File a b) made (file_none a b) p
    go Nothing made p room = no_number Nothing made nothing_none p
