-- Zones of memory: addresses with the rights that they have throughout a run.
use Rattle.std.specs.Prelude.{ℕ, ◌+◌, Bool, true, false, ◌&&◌, nat_le, List, [], ◌∷◌, ◌++◌, length, map, unwrap_or, if◌then◌else◌, Option, Some, None, Result, Ok, Err}
use Rattle.std.specs.Option.{option_to_list}
use Rattle.std.specs.List.{list_any}
use Rattle.abs_domain.specs.Words.{ImageView, Right, Param}
use Rattle.elf_image.specs.Image.{SegmentView}
use Rattle.region_mem.specs.declared.layout.TheConstants.{STACK, STACK_SIZE}
use Rattle.region_mem.specs.declared.faults.Right.TheVariants.{Read, Write, Fetch}
use Rattle.region_mem.specs.declared.parameter.Mode.{Mode}
use Rattle.region_mem.specs.declared.parameter.Mode.TheVariants as mode
use Rattle.region_mem.specs.declared.parameter.Param.TheVariants as parameter
use Rattle.region_mem.specs.Areas.{Area}
use Rattle.region_mem.specs.Parameter.{address_of}
use Rattle.abs_domain.specs.declared.why.Why.{Why}
use Rattle.abs_domain.specs.declared.why.Why.TheVariants.{AccessNotProved, ReadOnly}
use Rattle.abs_domain.specs.declared.zones.Zone.{Zone}

-- the zone of an area of memory: its bytes may change, its addresses and rights do not
abbrev pub zone_of : Area → Zone
zone_of area = record {
  first = area.first;
  end = area.first + length area.bytes;
  read = area.read;
  write = area.write;
}

-- the zone of a segment
unfoldable pub segment_zone : SegmentView → Zone
segment_zone segment = record {
  first = segment.address;
  end = segment.address + segment.memory_size;
  read = segment.read;
  write = segment.write;
}

-- the zone of the stack
unfoldable pub stack_zone : Zone
stack_zone = record { first = STACK; end = STACK + STACK_SIZE; read = true; write = true }

-- A buffer of this mode may be written.
abbrev pub may_write : Mode → Bool
may_write mode.Read = false
may_write mode.ReadWrite = true

-- the zone of the buffer that a parameter at a place asks for, if it asks for one
unfoldable pub buffer_zone : List Param → ℕ → Param → Option Zone
buffer_zone params place parameter.None = None
buffer_zone params place (parameter.Scalar lo hi) = None
buffer_zone params place (parameter.Buffer access size) =
    let first = unwrap_or (address_of place params) 0 in
    Some record { first = first; end = first + size; read = true; write = may_write access }

-- the zones of the buffers at the places from one on
unfoldable pub buffer_zones : List Param → ℕ → List Param → List Zone
buffer_zones params place [] = []
buffer_zones params place (param ∷ others) =
    option_to_list (buffer_zone params place param) ++ buffer_zones params (place + 1) others

-- the zones of a run of an image with these parameters: segments, stack and buffers
unfoldable pub zones_of : ImageView → List Param → List Zone
zones_of image params =
    (map segment_zone image.segments ++ stack_zone ∷ []) ++ buffer_zones params 0 params

-- All addresses from first on and below end are the zone's.
unfoldable pub spans : ℕ → ℕ → Zone → Bool
spans first end zone = nat_le zone.first first && nat_le end zone.end

-- The zone may be read, or written. None may be fetched from: code is checked by itself.
unfoldable pub zone_right : Right → Zone → Bool
zone_right Read zone = zone.read
zone_right Write zone = zone.write
zone_right Fetch zone = false

-- All addresses from first on and below end lie in one zone with the right.
unfoldable pub is_inside : Right → ℕ → ℕ → List Zone → Bool
is_inside right first end zones =
    list_any (λ zone. spans first end zone && zone_right right zone) zones

-- the answer on a load whose bytes lie from first on and below end
unfoldable pub load_allowed : ℕ → ℕ → List Zone → Result (Unit {0}) Why
load_allowed first end zones = if is_inside Read first end zones then Ok tt else Err AccessNotProved

-- the answer on such a store
unfoldable pub store_allowed : ℕ → ℕ → List Zone → Result (Unit {0}) Why
store_allowed first end zones =
    if is_inside Write first end zones then Ok tt
    else (if list_any (spans first end) zones then Err ReadOnly else Err AccessNotProved)
