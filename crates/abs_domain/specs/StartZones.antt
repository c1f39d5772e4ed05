-- The memory that a run starts with has the zones of its image and parameters.
use Rattle.region_mem.specs.Laws.{ForEachStart}
use Rattle.region_mem.specs.Start.{start_memory}
use Rattle.abs_domain.specs.Memories.{HasZones}
use Rattle.abs_domain.specs.Zones.{zones_of}

-- It has the zones of the segments, of the stack, and of each parameter that is a buffer.
abbrev pub ZonesAreThere : Type 0
ZonesAreThere =
    ForEachStart (λ image params args.
    HasZones (zones_of image params) (start_memory image params args))
