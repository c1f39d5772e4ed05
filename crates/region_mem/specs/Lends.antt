-- What memory ends as, where a part of it is lent to be written: the borrow ends with the bytes
-- that were written.
use Rattle.std.specs.Prelude.{ℕ, List}
use Rattle.std.specs.Borrow.{Lends, Fml, RattleType, MutBor, Array, u8}
use Rattle.std.specs.declared.alloc.Allocator.{Ghosts}
use Rattle.region_mem.specs.Areas.{Area, overlaid, overlaid_area}
use Rattle.region_mem.specs.Memory.{Memory, overlaid_window}
use Rattle.region_mem.specs.contracts.arguments.Bytes as bytes
use Rattle.region_mem.specs.contracts.region.Region as region
use Rattle.region_mem.specs.contracts.memory.Regions as regions

module _ (A : RattleType) (heap : Ghosts A.Denot) where
  -- r is the part of the bytes from an index on
  abbrev pub lends_part : MutBor (List ℕ) → ℕ → MutBor (List ℕ) → Fml
  lends_part lender at r =
      Lends (bytes.the_row A heap) (Array u8 0) lender r (overlaid at lender.now)

  -- r is the part of an area from an address on
  abbrev pub lends_area_part : MutBor Area → ℕ → MutBor (List ℕ) → Fml
  lends_area_part lender address r =
      Lends (region.the_row A heap) (Array u8 0) lender r (overlaid_area address lender.now)

  -- r is a window that begins at an address
  abbrev pub lends_window : MutBor Memory → ℕ → MutBor (List ℕ) → Fml
  lends_window lender address r =
      Lends (regions.the_row A heap) (Array u8 0) lender r (overlaid_window address lender.now)
