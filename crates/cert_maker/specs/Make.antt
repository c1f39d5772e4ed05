-- What a loop that was read has, the facts of each block, and the errors of the maker.
use Rattle.std.specs.Prelude.{◌≡◌, ℕ, ◌+◌, ◌*◌, ◌-◌, ◌<◌, ◌≤◌, Bool, true, false}
use Rattle.std.specs.Prelude.{List, [], ◌∷◌, ◌++◌, length, Option, Some, None, IfSome, codes}
use Rattle.std.specs.List.{slice_get, list_all, AllByRecursion}
use Rattle.std.specs.Option.{option_map_or}
use Rattle.region_mem.specs.Digits.{digits_text}
use Rattle.region_mem.specs.Parameter.{is_valid}
use Rattle.rv_decode.specs.declared.instructions.Direction.TheVariants.{Load}
use Rattle.cert_note.specs.Certificate.{is_scalar, FitsWords}
use Rattle.cert_maker.specs.declared.errors.MakeError.{MakeError}
use Rattle.cert_maker.specs.declared.errors.MakeError.TheVariants as error
use Rattle.cert_maker.specs.declared.loops.Loop.{Loop}
use Rattle.cert_maker.specs.declared.building.Spot.{Spot}
use Rattle.cert_maker.specs.declared.building.Spot.TheVariants.{Entry, Body, Return}
use Rattle.cert_maker.specs.Words.{Param, RegisterFact, Block}
use Rattle.cert_maker.specs.Loops.{size_of, is_flagged, is_buffer_for}
use Rattle.cert_maker.specs.Certificates.{stated_by, entry_count, entry_pointer, loop_count, loop_pointer}
use Rattle.cert_maker.specs.Certificates.{block, budget, entry_facts, loop_blocks, facts_by}

-- The buffer at a place has room for as many elements as there are at most.
abbrev pub has_room : List Param → Loop → ℕ → Bool
has_room params loop place =
    option_map_or (is_buffer_for Load (loop.most * size_of loop)) (slice_get params place) false

-- The count is a scalar that is passed, and each pointer a buffer with room for all elements.
pub record IsFor (params : List Param) (loop : Loop) : Type 0 where
  pub flags : length loop.pointers ≡ 8
  pub from : 10 ≤ loop.count
  pub to : loop.count < 18
  pub count : option_map_or is_scalar (slice_get params (loop.count - 10)) false ≡ true
  pub rooms : (place : ℕ) → place < 8 → is_flagged (place + 10) loop.pointers ≡ true
      → has_room params loop place ≡ true

-- What the parameter at a place says fits its words.
abbrev pub FitsAt : List Param → ℕ → Type 0
FitsAt params place = IfSome (slice_get params place) FitsWords

-- Eight parameters that are valid and fit their words, as all `Parameters` are.
pub record AreParameters (params : List Param) : Type 0 where
  pub eight : length params ≡ 8
  pub valid : list_all is_valid params ≡ true
  pub fit : AllByRecursion FitsWords params

-- what is stated of the argument register of a place where a block begins
abbrev pub stated_at : Spot → List Param → Loop → ℕ → Option RegisterFact
stated_at Entry params loop place =
    stated_by loop (entry_count loop) (λ place. entry_pointer params place) place
stated_at Body params loop place =
    stated_by loop (loop_count loop) (λ place. loop_pointer params loop place) place
stated_at Return params loop place = None

-- the blocks of a loop's certificate, from the entry on
abbrev pub blocks_of : ℕ → List Param → Loop → ℕ → List Block
blocks_of entry params loop words =
    block entry (budget 2 words loop.count) (entry_facts params loop)
    ∷ loop_blocks params (entry + 4) loop words
    ++ block (entry + 4 + 4 * words) (budget 1 0 0) (facts_by (λ place. None)) ∷ []

-- the error's name
abbrev pub name_of : MakeError → List ℕ
name_of (error.NotALoopOfTheClass address) = codes "NotALoopOfTheClass"
name_of error.NoMemory = codes "NoMemory"

-- the address that the error carries
abbrev pub address_of : MakeError → Option ℕ
address_of (error.NotALoopOfTheClass address) = Some address
address_of error.NoMemory = None

abbrev pub error_text : MakeError → List ℕ
error_text (error.NotALoopOfTheClass address) =
    codes "no loop of the class at " ++ digits_text address
error_text error.NoMemory = codes "out of memory"
