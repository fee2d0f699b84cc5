-- Addresses of marks, by computation: those of document 01's strip, of nested blocks, and of a repeat of several positions.
-- Assumes nothing.
use mathlib.Core.Path.{◌≡◌, refl}
use mathlib.Core.Bool.{false}
use mathlib.Core.List.{List, [], ◌∷◌, map}
use Prim.Native.Nat.{ℕ}
use lib.IntN.{pos}
use Rattle.base.specs.Run.{run}
use Rattle.points.specs.Points.{pt}
use Rattle.place.specs.Kind as kind
use Rattle.place.specs.Parts.{◌then◌}
use Rattle.place.specs.Mark.{Mark, draw, contour, edge, flash, begin, finish, block, repeat, parts_of, put, closed, marked, written, parts_from}
use Rattle.place.proofs.Worked.{item, marks}
use Rattle.law_addresses.specs.Marks.{under, in_copy, positions, addresses_in, padded, words_of, part_addresses, addresses_of}

-- a block of two items flashed in a repeat of two: copy 1 and copy 2, the first position, the block's first and second item
strip :
    addresses_of marks
    ≡ (1 ∷ 1 ∷ 1 ∷ 0 ∷ 0 ∷ 0 ∷ 0 ∷ 0 ∷ 0 ∷ 0 ∷ [])
    ∷ (1 ∷ 1 ∷ 2 ∷ 0 ∷ 0 ∷ 0 ∷ 0 ∷ 0 ∷ 0 ∷ 0 ∷ [])
    ∷ (2 ∷ 1 ∷ 1 ∷ 0 ∷ 0 ∷ 0 ∷ 0 ∷ 0 ∷ 0 ∷ 0 ∷ [])
    ∷ (2 ∷ 1 ∷ 2 ∷ 0 ∷ 0 ∷ 0 ∷ 0 ∷ 0 ∷ 0 ∷ 0 ∷ [])
    ∷ []
unfolding marks addresses_of part_addresses words_of padded addresses_in positions in_copy under parts_from written marked closed put parts_of ◌then◌ run
strip = refl

unfoldable dot : Mark
dot = draw (item kind.flash 0 (pos 0) (pos 0) (pos 0) (pos 0) 0 0)

unfoldable uses : ℕ → Mark
uses n = flash n (record { flip = false; angle = 0; clear = false; at = pt (pos 0) (pos 0) }) 0

-- block 11 has a dot; block 12 has a dot, a flash of block 11 and a dot; block 13 is empty and block 14 has a flash of it. On the sheet: a
-- dot, block 14, block 12
unfoldable nested : List Mark
nested =
    begin (block 11) ∷ dot ∷ finish
    ∷ begin (block 12) ∷ dot ∷ uses 11 ∷ dot ∷ finish
    ∷ begin (block 13) ∷ finish
    ∷ begin (block 14) ∷ uses 13 ∷ dot ∷ finish
    ∷ dot ∷ uses 14 ∷ uses 12
    ∷ []

-- the chains, without the words that go unused
blocks_nested :
    map (λ w. w.chain) (addresses_in 1 (parts_from nested))
    ≡ (1 ∷ [])
    ∷ (2 ∷ 2 ∷ [])
    ∷ (3 ∷ 1 ∷ [])
    ∷ (3 ∷ 2 ∷ 1 ∷ [])
    ∷ (3 ∷ 3 ∷ [])
    ∷ []
unfolding nested dot uses addresses_in positions in_copy under parts_from written marked closed put parts_of ◌then◌ run
blocks_nested = refl

-- a dot; a repeat of two by one with a dot and a contour of one edge; a repeat of one by one with a dot; a dot
unfoldable repeats : List Mark
repeats =
    dot
    ∷ begin (repeat (record { nx = 2; ny = 1; dx = 5; dy = 0 })) ∷ dot ∷ contour (item kind.contour 0 (pos 0) (pos 0) (pos 0) (pos 0) 0 0)
    ∷ edge (item kind.edge_line 0 (pos 0) (pos 0) (pos 0) (pos 0) 0 0) ∷ finish
    ∷ begin (repeat (record { nx = 1; ny = 1; dx = 0; dy = 0 })) ∷ dot ∷ finish
    ∷ dot
    ∷ []

-- copy and chain
repeats_go_on :
    map (λ w. w.copy ∷ w.chain) (addresses_in 1 (parts_from repeats))
    ≡ (0 ∷ 1 ∷ [])
    ∷ (1 ∷ 2 ∷ []) ∷ (1 ∷ 3 ∷ []) ∷ (1 ∷ 4 ∷ [])
    ∷ (2 ∷ 2 ∷ []) ∷ (2 ∷ 3 ∷ []) ∷ (2 ∷ 4 ∷ [])
    ∷ (1 ∷ 5 ∷ [])
    ∷ (0 ∷ 6 ∷ [])
    ∷ []
unfolding repeats dot addresses_in positions in_copy under parts_from written marked closed put parts_of ◌then◌ run
repeats_go_on = refl
