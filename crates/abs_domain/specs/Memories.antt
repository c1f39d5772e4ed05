-- Zones of a memory, what is permitted there, and what a step keeps of a memory.
use Rattle.std.specs.Prelude.{ℕ, ◌≡◌, ◌≤◌, ◌+◌, Bool, true, List, map, Some}
use Rattle.std.specs.List.{list_any}
use Rattle.abs_domain.specs.Words.{Right, IsCodeSafe, AreBytes, Memory}
use Rattle.region_mem.specs.Areas.{AreInside}
use Rattle.region_mem.specs.Memory.{is_permitted, store_of, fetch_of}
use Rattle.abs_domain.specs.declared.zones.Zone.{Zone}
use Rattle.abs_domain.specs.Zones.{zone_of, is_inside}

-- The memory has these zones: whatever a test finds among them it finds among the zones of the
-- memory's areas. None of these passes the last address.
pub record HasZones (zones : List Zone) (m : Memory) : Type 0 where
  pub inside : AreInside m.areas
  pub there : (p : Zone → Bool) → list_any p zones ≡ true → list_any p (map zone_of m.areas) ≡ true

-- An access whose bytes lie in one of a memory's zones with the right is permitted.
abbrev pub ZonesArePermitted : Type 0
ZonesArePermitted =
    (right : Right) (first end : ℕ) (zones : List Zone) (m : Memory) (address n : ℕ)
    → HasZones zones m → is_inside right first end zones ≡ true → first ≤ address
    → address + n ≤ end → is_permitted right address n m ≡ true

-- A store keeps a memory's zones.
abbrev pub StoresKeepZones : Type 0
StoresKeepZones =
    (address n value : ℕ) (zones : List Zone) (m stored : Memory) → HasZones zones m
    → store_of address n value m ≡ Some stored → HasZones zones stored

-- What a step keeps of memory: its zones; where no byte that may be fetched may be written, that
-- and all that is fetched; that it holds bytes.
pub record KeepsMemory (m next : Memory) : Type 0 where
  pub zones : (zones : List Zone) → HasZones zones m → HasZones zones next
  pub code : IsCodeSafe m → IsCodeSafe next × ((pc : ℕ) → fetch_of pc next ≡ fetch_of pc m)
  pub bytes : AreBytes m → AreBytes next
