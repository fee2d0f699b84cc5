-- Every command that is recognised keeps its bounds.
-- Assumes nothing.
use Prim.Native.Nat.{ℕ, ◌≤◌}
use Prim.Native.Char.{code}
use mathlib.Core.List.{List}
use native.Mathlib.Omega.{arith}
use lib.ListN.{length, take, length-take}
use Rattle.text.specs.First.{place}
use Rattle.book.specs.declared.Book.{Book}
use Rattle.formats.specs.declared.Format.{Format}
use Rattle.scan.specs.declared.Kind.{Kind}
use Rattle.scan.specs.declared.Kind.TheVariants as kind
use Rattle.command.specs.declared.Command.{Command}
use Rattle.command.specs.declared.Command.TheVariants.{Broken, Note, End, Set, Operate, Coded, Select, Define, Contain, Attribute}
use Rattle.command.specs.declared.Definition.{Definition}
use Rattle.command.specs.declared.Definition.TheVariants as definition
use Rattle.command.specs.declared.Deed.{Deed}
use Rattle.command.specs.declared.Deed.TheVariants as deed
use Rattle.command.specs.declared.Span.{Span}
use Rattle.recognise.specs.Commands.{data_of, data_in, extended_of, command_of}
use Rattle.law_bounds.specs.Bounded.{Lies, DefinitionBounded, DeedBounded, Bounded}
use Rattle.law_bounds.proofs.Tables.{picks}
use Rattle.law_bounds.proofs.Words.{word_bounded}
use Rattle.law_bounds.proofs.Settings.{format_bounded, unit_bounded, repeat_bounded, transformation_bounded}
use Rattle.law_bounds.proofs.Apertures.{aperture_bounded, block_bounded}
use Rattle.law_bounds.proofs.Attributes.{attribute_bounded, deletion_bounded}
use Rattle.law_bounds.proofs.Macros.{macro_bounded}

-- what is bounded in a text is bounded in a longer one
module _ (t s : List ℕ) (h : length t ≤ length s) where
  lies : (p : Span) → Lies t p → Lies s p
  lies p k = record { ordered = k.ordered; inside = omega (arith, k.inside) }

  longer_definition : (d : Definition) → DefinitionBounded t d → DefinitionBounded s d
  unfolding DefinitionBounded
  longer_definition (definition.Aperture n name ps rounded) k = record { number = k.number; named = lies name k.named; given = lies ps k.given }
  longer_definition (definition.Macro name blocks deep rounded) k = record { ordered = k.ordered; behind = k.behind; inside = omega (arith, k.inside) }

  longer_deed : (d : Deed) → DeedBounded t d → DeedBounded s d
  unfolding DeedBounded
  longer_deed (deed.SetFile name value) k = lies name k
  longer_deed (deed.SetAperture name value) k = k
  longer_deed (deed.SetObject name value) k = k
  longer_deed (deed.Delete name) k = k
  longer_deed deed.DeleteAll k = k

  longer : (c : Command) → Bounded t c → Bounded s c
  unfolding Bounded
  longer (Broken flaw) k = k
  longer Note k = k
  longer End k = k
  longer (Set a) k = k
  longer (Operate o) k = k
  longer (Coded code o) k = k
  longer (Select n) k = k
  longer (Define d) k = longer_definition d k
  longer (Contain b) k = k
  longer (Attribute d) k = longer_deed d k

module _ (book : Book) where
  data_bounded : (s : List ℕ) → Bounded s (data_of book s)
  unfolding data_of
  data_bounded s =
      picks (Bounded s) (λ e. format_bounded s book)
      (picks (Bounded s) (λ e. unit_bounded s)
      (picks (Bounded s) (λ e. aperture_bounded s)
      (picks (Bounded s) (λ e. block_bounded s)
      (picks (Bounded s) (λ e. repeat_bounded s)
      (picks (Bounded s) (λ e. transformation_bounded s) (picks (Bounded s) (λ e. deletion_bounded s) (attribute_bounded s)))))))

  read_bounded : (s : List ℕ) → Bounded s (data_in book s)
  unfolding data_in Bounded
  read_bounded s = picks (Bounded s) (λ e. tt) (data_bounded s)

  extended_bounded : (s : List ℕ) → Bounded s (extended_of book s)
  unfolding extended_of Bounded
  extended_bounded s =
      let star : ℕ = place (code "*") s 0 in
      picks (Bounded s)
      (λ e. longer (take star s) s (omega (arith, length-take star s)) (data_in book (take star s)) (read_bounded (take star s)))
      tt

  pub bounded : (f : Format) (kind : Kind) (text : List ℕ) → Bounded text (command_of book f kind text)
  unfolding command_of
  bounded f kind.Word text = word_bounded text f book
  bounded f kind.Extended text = extended_bounded text
  bounded f kind.Macro text = macro_bounded text
