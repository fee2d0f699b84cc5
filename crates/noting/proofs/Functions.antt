-- What an aperture is for, by the commands before and after: the first AD with its number decides.
-- Assumes nothing.
use Prim.Native.Nat.{ℕ}
use mathlib.Core.Path.{◌≡◌, refl, sym}
use mathlib.Core.Bool.{Bool, true, false, false≢true}
use mathlib.Core.List.{List, [], ◌∷◌, ◌++◌}
use Rattle.base.specs.Or.{◌or◌}
use Rattle.text.specs.Text.{text}
use Rattle.sequence.specs.declared.Placed.{Placed}
use Rattle.attribute_call.specs.declared.Kind.TheVariants as kind
use Rattle.attribute_call.specs.Sayings.{saying_of}
use Rattle.attribute_call.specs.declared.Saying.{Saying}
use Rattle.attribute_call.specs.Attribute.{later, held}
use Rattle.law_components.specs.Values as values
use Rattle.law_components.specs.Values.{Value}
use Rattle.layer.specs.Made.{made_of}
use Rattle.layer.specs.Attributes.{value_of, is_aperture_as, function_in}
use Rattle.layer.proofs.Held.{said_value}
use Rattle.layer.specs.Said.{said_in, value_said}

-- one of these commands is an AD with this number
unfoldable pub has_aperture : ℕ → List Placed → Bool
has_aperture n [] = false
has_aperture n (c ∷ cs) = is_aperture_as n (made_of c.command) or has_aperture n cs

abbrev with : List ℕ → Saying → Placed → Saying
with file h c = later h (saying_of file kind.Aperture (text ".AperFunction") c)

module _ (file : List ℕ) (n : ℕ) where
  pub function_found : (h : Saying) (cs ds : List Placed) → has_aperture n cs ≡ true → function_in file n h (cs ++ ds) ≡ function_in file n h cs
  unfolding has_aperture function_in ◌or◌
  function_found h [] ds e = absurd (false≢true e)
  function_found h (c ∷ cs) ds e = go (is_aperture_as n (made_of c.command)) e (function_found (with file h c) cs ds)
    where
      go : (t : Bool) → (t or has_aperture n cs) ≡ true → (has_aperture n cs ≡ true → function_in file n (with file h c) (cs ++ ds) ≡ function_in file n (with file h c) cs) →
          ◌≡◌ {A = Value} (elim t [ true ↦ value_of file (held h) | false ↦ function_in file n (with file h c) (cs ++ ds) ])
          (elim t [ true ↦ value_of file (held h) | false ↦ function_in file n (with file h c) cs ])
      go true e ih = refl
      go false e ih = ih e

  pub function_behind : (h : Saying) (cs ds : List Placed) → has_aperture n cs ≡ false → function_in file n h (cs ++ ds) ≡ function_in file n (said_in file kind.Aperture (text ".AperFunction") h cs) ds
  unfolding has_aperture function_in said_in ◌or◌
  function_behind h [] ds e = refl
  function_behind h (c ∷ cs) ds e = go (is_aperture_as n (made_of c.command)) e (function_behind (with file h c) cs ds)
    where
      go : (t : Bool) → (t or has_aperture n cs) ≡ false →
          (has_aperture n cs ≡ false → function_in file n (with file h c) (cs ++ ds) ≡ function_in file n (said_in file kind.Aperture (text ".AperFunction") (with file h c) cs) ds) →
          elim t [ true ↦ value_of file (held h) | false ↦ function_in file n (with file h c) (cs ++ ds) ]
          ≡ function_in file n (said_in file kind.Aperture (text ".AperFunction") (with file h c) cs) ds
      go true e ih = absurd (false≢true (sym e))
      go false e ih = ih e

  pub function_none : (h : Saying) (cs : List Placed) → has_aperture n cs ≡ false → function_in file n h cs ≡ values.none
  unfolding has_aperture function_in ◌or◌
  function_none h [] e = refl
  function_none h (c ∷ cs) e = go (is_aperture_as n (made_of c.command)) e (function_none (with file h c) cs)
    where
      go : (t : Bool) → (t or has_aperture n cs) ≡ false → (has_aperture n cs ≡ false → function_in file n (with file h c) cs ≡ values.none) →
          elim t [ true ↦ value_of file (held h) | false ↦ function_in file n (with file h c) cs ] ≡ values.none
      go true e ih = absurd (false≢true (sym e))
      go false e ih = ih e

  -- the AD itself
  pub function_here : (h : Saying) (c : Placed) → is_aperture_as n (made_of c.command) ≡ true → function_in file n h (c ∷ []) ≡ value_said file h
  unfolding function_in
  function_here h c e = rw (e, function_in) (said_value file h)

pub has_append : (n : ℕ) (cs : List Placed) (c : Placed) → has_aperture n (cs ++ (c ∷ [])) ≡ (has_aperture n cs or is_aperture_as n (made_of c.command))
unfolding has_aperture ◌or◌
has_append n [] c = go (is_aperture_as n (made_of c.command))
  where
    go : (t : Bool) → (t or false) ≡ t
    go true = refl
    go false = refl
has_append n (d ∷ cs) c = go (is_aperture_as n (made_of d.command)) (has_append n cs c)
  where
    go : (t : Bool) → has_aperture n (cs ++ (c ∷ [])) ≡ (has_aperture n cs or is_aperture_as n (made_of c.command)) →
        (t or has_aperture n (cs ++ (c ∷ []))) ≡ ((t or has_aperture n cs) or is_aperture_as n (made_of c.command))
    go true ih = refl
    go false ih = ih
