-- FS, MO, SR and the transformations.
-- Assumes nothing.
use Rattle.std.specs.Prelude.{Err, Ok, Result}
use Prim.Native.Nat.{ℕ}
use mathlib.Core.Path.{◌≡◌, refl}
use mathlib.Core.Bool.{true}
use mathlib.Core.List.{List}
use native.Mathlib.Omega.{arith}
use lib.ListN.{drop}
use Rattle.text.specs.First.{before, after}
use Rattle.book.specs.declared.Book.{Book}
use Rattle.formats.specs.Format.{is_format}
use Rattle.formats.specs.Texts.{newer_format, old_format}
use Rattle.formats.specs.declared.Format.{Format}
use Rattle.settings.specs.Header.{formatted, format_of, unit_of}
use Rattle.settings.specs.Repeats.{repeats, repeat_start, repeat_of}
use Rattle.settings.specs.Transformations.{rotation_of, scale_of, mirror_of, transformation_of}
use Rattle.law_bounds.specs.Bounded.{SettingBounded, BracketBounded, Bounded}
use Rattle.law_bounds.proofs.Tables.{picks, judges}
use Rattle.law_bounds.proofs.Numbers.{copies_most, size_small}
use Rattle.law_bounds.proofs.Formats.{newer_formats, old_formats}
use Rattle.formats.specs.declared.FormatError.TheVariants as format_error
use Rattle.formats.specs.declared.FormatError.{FormatError}

-- what FS says is a format, in either edition
module _ (s : List ℕ) where
  formatted_bounded : (a : Result Format FormatError) → ((f : Format) → a ≡ Ok f → is_format f ≡ true) → Bounded s (formatted a)
  unfolding formatted Bounded SettingBounded
  formatted_bounded (Err format_error.NotForm) h = tt
  formatted_bounded (Err format_error.SevenPlaces) h = tt
  formatted_bounded (Ok f) h = h f refl

  pub format_bounded : (book : Book) → Bounded s (format_of book s)
  unfolding format_of
  format_bounded book = picks (λ (a : Result Format FormatError). Bounded s (formatted a)) (λ e. formatted_bounded (old_format s) (old_formats s)) (formatted_bounded (newer_format s) (newer_formats s))

  pub unit_bounded : Bounded s (unit_of s)
  unfolding unit_of Bounded SettingBounded
  unit_bounded = picks (Bounded s) (λ e. tt) (picks (Bounded s) (λ e. tt) tt)

  start_bounded : (x : List ℕ) → Bounded s (repeat_start x)
  unfolding repeat_start repeats Bounded BracketBounded
  start_bounded x =
      let y : List ℕ = after "Y" x in
      let i : List ℕ = after "I" y in
      judges (Bounded s) tt tt (λ formed short. record {
        columns = copies_most (before "Y" x);
        rows = copies_most (before "I" y);
        across = omega (arith, size_small (before "J" i));
        up = omega (arith, size_small (after "J" i));
      })

  pub repeat_bounded : Bounded s (repeat_of s)
  unfolding repeat_of Bounded BracketBounded
  repeat_bounded = picks (Bounded s) (λ e. tt) (picks (Bounded s) (λ e. start_bounded (drop 3 s)) tt)

  rotation_bounded : Bounded s (rotation_of s)
  unfolding rotation_of Bounded SettingBounded
  rotation_bounded = judges (Bounded s) tt tt (λ formed short. size_small (drop 2 s))

  scale_bounded : Bounded s (scale_of s)
  unfolding scale_of Bounded SettingBounded
  scale_bounded = judges (Bounded s) tt tt (λ formed short. size_small (drop 2 s))

  mirror_bounded : Bounded s (mirror_of s)
  unfolding mirror_of Bounded SettingBounded
  mirror_bounded =
      picks (Bounded s) (λ e. tt) (picks (Bounded s) (λ e. tt) (picks (Bounded s) (λ e. tt) (picks (Bounded s) (λ e. tt) tt)))

  pub transformation_bounded : Bounded s (transformation_of s)
  unfolding transformation_of Bounded SettingBounded
  transformation_bounded =
      picks (Bounded s) (λ e. tt)
      (picks (Bounded s) (λ e. tt)
      (picks (Bounded s) (λ e. mirror_bounded)
      (picks (Bounded s) (λ e. rotation_bounded) (picks (Bounded s) (λ e. scale_bounded) tt))))
