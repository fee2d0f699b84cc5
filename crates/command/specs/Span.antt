-- A part of a command's text, from one place up to another.
use Rattle.std.specs.Prelude.{ℕ}
use Rattle.command.specs.declared.Span.{Span}

abbrev pub span : ℕ → ℕ → Span
span a b = record { from = a; to = b }
