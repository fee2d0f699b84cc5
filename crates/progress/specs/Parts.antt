-- How far reading has come, with a part set anew.
use Rattle.std.specs.Prelude.{ℕ}
use Rattle.graphics.specs.declared.Graphics.{Graphics}
use Rattle.build.specs.declared.Builder.{Builder}
use Rattle.progress.specs.declared.Progress.{Progress}

-- with the graphics state set anew
abbrev pub with_graphics : Graphics → Progress → Progress
with_graphics g p = record { graphics = g; builder = p.builder; contour = p.contour; depth = p.depth; copies = p.copies; sheet = p.sheet; apertures = p.apertures; macros = p.macros; numbers = p.numbers }

-- with the entries built further
abbrev pub with_builder : Builder → Progress → Progress
with_builder b p = record { graphics = p.graphics; builder = b; contour = p.contour; depth = p.depth; copies = p.copies; sheet = p.sheet; apertures = p.apertures; macros = p.macros; numbers = p.numbers }

-- with a contour that stands there on the stack
abbrev pub with_contour : ℕ → Progress → Progress
with_contour contour p = record { graphics = p.graphics; builder = p.builder; contour = contour; depth = p.depth; copies = p.copies; sheet = p.sheet; apertures = p.apertures; macros = p.macros; numbers = p.numbers }

-- with so many blocks open
abbrev pub with_depth : ℕ → Progress → Progress
with_depth depth p = record { graphics = p.graphics; builder = p.builder; contour = p.contour; depth = depth; copies = p.copies; sheet = p.sheet; apertures = p.apertures; macros = p.macros; numbers = p.numbers }

-- with the copies of an open repeat, and the sheet's items before it
abbrev pub with_repeat : ℕ → ℕ → Progress → Progress
with_repeat copies sheet p = record { graphics = p.graphics; builder = p.builder; contour = p.contour; depth = p.depth; copies = copies; sheet = sheet; apertures = p.apertures; macros = p.macros; numbers = p.numbers }

-- with so many apertures used
abbrev pub with_apertures : ℕ → Progress → Progress
with_apertures apertures p = record { graphics = p.graphics; builder = p.builder; contour = p.contour; depth = p.depth; copies = p.copies; sheet = p.sheet; apertures = apertures; macros = p.macros; numbers = p.numbers }

-- with so many macros used
abbrev pub with_macros : ℕ → Progress → Progress
with_macros macros p = record { graphics = p.graphics; builder = p.builder; contour = p.contour; depth = p.depth; copies = p.copies; sheet = p.sheet; apertures = p.apertures; macros = macros; numbers = p.numbers }

-- with so many numbers used
abbrev pub with_numbers : ℕ → Progress → Progress
with_numbers numbers p = record { graphics = p.graphics; builder = p.builder; contour = p.contour; depth = p.depth; copies = p.copies; sheet = p.sheet; apertures = p.apertures; macros = p.macros; numbers = numbers }
