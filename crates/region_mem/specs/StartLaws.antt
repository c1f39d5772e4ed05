-- What memory has at the start of a run, and that it has nothing else.
use Rattle.std.specs.Prelude.{List, ◌∷◌, ◌++◌, map, IsPermutation}
use Rattle.elf_image.specs.Image.{ImageView}
use Rattle.region_mem.specs.Words.{Param}
use Rattle.region_mem.specs.Parameter.{Argument}
use Rattle.region_mem.specs.Start.{buffer_areas, segment_area, stack_area, start_memory}

-- Its areas are those of the segments, the stack and the buffers, each once, in some order.
abbrev pub StartsWithNothingElse : Type 0
StartsWithNothingElse =
    (image : ImageView) (params : List Param) (args : List Argument) → IsPermutation
    (map segment_area image.segments ++ stack_area ∷ buffer_areas params 0 args)
    (start_memory image params args).areas
