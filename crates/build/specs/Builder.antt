-- How far a store is built, with an entry more.
use Rattle.std.specs.Prelude.{ℕ, ◌+◌, cond, leb}
use Rattle.build.specs.declared.Builder.{Builder}

-- "Block height is 1, or one more than the tallest block flashed in it" (01, State); a body and the top level are higher than any block
unfoldable pub raised : ℕ → ℕ → ℕ
raised h k = cond (leb h k) (k + 1) h

-- the innermost container has an entry more, which puts out k items; h is its height then
unfoldable pub grown : Builder → ℕ → ℕ → Builder
grown b k h = record { closed = b.closed; high = b.high + 1; start = b.start; height = h; items = b.items + k }

-- a container of height h is the innermost
unfoldable pub inner : Builder → ℕ → Builder
inner b h = record { closed = b.closed; high = b.high + 1; start = b.high + 1; height = h; items = 0 }
