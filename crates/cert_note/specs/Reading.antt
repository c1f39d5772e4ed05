-- Reading from the first byte to the last, with the first fault that is met.
use Rattle.std.specs.Prelude.{◌≡◌, ◌≢◌, ◌≤◌, ℕ, zero, suc, ◌+◌, ◌-◌, ◌%◌, min, ◌<◌, ◌==◌, Bool, true, false, ◌&&◌, ◌||◌, not, nat_le, nat_lt, List, [], ◌∷◌, length, take, drop, Option, Some, None, is_some, Result, Ok, Err, IsOk, IsErr, IfSome, IsSomeAnd, MatchResult, if◌then◌else◌, ok_or}
use Rattle.std.specs.Result.{result_map_both}
use Rattle.std.specs.Int.{Width, w16, w32, byte_len, from_le_bytes}
use Rattle.region_mem.specs.Parameter.{parameters_of}
use Rattle.region_mem.specs.declared.layout.TheConstants.{MAX_BUFFER_SIZE}
use Rattle.cert_note.specs.Words.{Version, Param, Vlen, EqualityTerm, Budget, VectorFact, OrderFact, Counts, FactGroup, Front, Equality, RegisterFact, Block}
use Rattle.region_mem.specs.declared.parameter.Mode.TheVariants.{Read, ReadWrite}
use Rattle.region_mem.specs.declared.parameter.Param.TheVariants as parameter
use Rattle.cert_note.specs.declared.refusals.CertError.{CertError}
use Rattle.cert_note.specs.declared.refusals.Fault.{Fault}
use Rattle.cert_note.specs.declared.refusals.CertRefusal.{CertRefusal}
use Rattle.cert_note.specs.declared.refusals.CertError.TheVariants as error
use Rattle.cert_note.specs.declared.values.Version.TheVariants.{V1, V2}
use Rattle.vreg_groups.specs.declared.vector_length.Vlen.TheVariants.{V128, V256, V512}
use Rattle.vreg_groups.specs.VectorType.{vtype_of}
use Rattle.cert_note.specs.Certificate.{CertificateView, is_atom, is_full, is_budget, is_second, is_width, is_group, is_count, is_interval, is_greater, is_lesser, are_free, after_term, after_fact, after_vector, after_order, after_block}

infixl 10 ◌>>=◌
abbrev pub ◌>>=◌ :
    {A B : Type 0} → Result A Fault → (A → Result B Fault) → Result B Fault
(Ok x) >>= f = f x
(Err e) >>= f = Err e

-- What a function returned, seen by view, is what reading gives.
abbrev pub Gives : {X Y : Type 0} → (X → Y) → Result X Fault → Result Y Fault → Type 0
Gives view (Ok x) read = read ≡ Ok (view x)
Gives view (Err e) read = read ≡ Err e

-- a fault of the field that these bytes stand behind
abbrev pub fault_of : CertError → List ℕ → Fault
fault_of e behind = record { error = e; left = length behind }

-- a condition on a field, and the fault where it does not hold
abbrev pub expect : Bool → CertError → List ℕ → Result (Unit {0}) Fault
expect true e behind = Ok tt
expect false e behind = Err (fault_of e behind)

-- A field is a value and the bytes behind it.
unfoldable pub byte_at : List ℕ → Result (ℕ × List ℕ) Fault
byte_at [] = Err (fault_of error.Short [])
byte_at (byte ∷ rest) = Ok (byte, rest)

unfoldable pub number_at : Width → List ℕ → Result (ℕ × List ℕ) Fault
number_at w bytes =
    if nat_lt (length bytes) (byte_len w) then Err (fault_of error.Short [])
    else Ok (from_le_bytes w (take (byte_len w) bytes), drop (byte_len w) bytes)

-- a byte of zero, and the bytes behind it
unfoldable pub zero_at : CertError → List ℕ → Result (List ℕ) Fault
zero_at e bytes = do
  byte ← byte_at bytes
  _ ← expect (byte.0 == 0) e byte.1
  Ok byte.1

-- two bytes of zeros
unfoldable pub zeros_at : CertError → List ℕ → Result (List ℕ) Fault
zeros_at e bytes = do
  number ← number_at w16 bytes
  _ ← expect (number.0 == 0) e number.1
  Ok number.1

-- Items are read one after the other: how many, from which number on, and the bytes. Each is read
-- from the number that the one before it leaves.
abbrev pub One : Type 0 → Type 0
One A = ℕ → List ℕ → Result (A × List ℕ) Fault

abbrev pub Many : Type 0 → Type 0
Many A = ℕ → ℕ → List ℕ → Result (List A × List ℕ) Fault

unfoldable pub many_at : {A : Type 0} → One A → (A → ℕ) → Many A
many_at one next zero from bytes = Ok ([], bytes)
many_at one next (suc n) from bytes = do
  first ← one from bytes
  others ← many_at one next n (next first.0) first.1
  Ok (first.0 ∷ others.0, others.1)

unfoldable pub version_of : ℕ → Option Version
version_of number = if number == 1 then Some V1 else (if number == 2 then Some V2 else None)

unfoldable pub vlen_of : ℕ → Option Vlen
vlen_of code =
    if code == 1 then Some V128
    else (if code == 2 then Some V256 else (if code == 3 then Some V512 else None))

unfoldable pub header_at : List ℕ → Result ((Version × Vlen) × List ℕ) Fault
header_at bytes = do
  number ← number_at w16 bytes
  version ← ok_or (version_of number.0) (fault_of error.Version number.1)
  code ← byte_at number.1
  vlen ← ok_or (vlen_of code.0) (fault_of error.Version code.1)
  rest ← zero_at error.Version code.1
  Ok ((version, vlen), rest)

-- the parameter of a kind, a mode and two numbers, where they are one
unfoldable pub is_mode : ℕ → ℕ → Bool
is_mode kind mode = if kind == 2 then (mode == 1) || (mode == 3) else mode == 0

unfoldable pub is_first_number : ℕ → ℕ → Bool
is_first_number kind a =
    if kind == 0 then a == 0 else (if kind == 2 then nat_le a MAX_BUFFER_SIZE else true)

unfoldable pub is_second_number : ℕ → ℕ → ℕ → Bool
is_second_number kind a b = if kind == 1 then nat_le a b else b == 0

unfoldable pub param_of : ℕ → ℕ → ℕ → ℕ → Param
param_of kind mode a b =
    if kind == 2 then parameter.Buffer (if mode == 1 then Read else ReadWrite) a
    else (if kind == 1 then parameter.Scalar a b else parameter.None)

unfoldable pub parameter_at : List ℕ → Result (Param × List ℕ) Fault
parameter_at bytes = do
  kind ← byte_at bytes
  _ ← expect (nat_le kind.0 2) error.Parameter kind.1
  mode ← byte_at kind.1
  _ ← expect (is_mode kind.0 mode.0) error.Parameter mode.1
  rest ← zeros_at error.Parameter mode.1
  a ← number_at w32 rest
  _ ← expect (is_first_number kind.0 a.0) error.Parameter a.1
  b ← number_at w32 a.1
  _ ← expect (is_second_number kind.0 a.0 b.0) error.Parameter b.1
  Ok (param_of kind.0 mode.0 a.0 b.0, b.1)

-- this many parameters, each from wherever the one before it ends
abbrev pub parameter_from : ℕ → List ℕ → Result (Param × List ℕ) Fault
parameter_from from bytes = parameter_at bytes

abbrev pub after_parameter : Param → ℕ
after_parameter param = 0

abbrev pub parameters_at : ℕ → List ℕ → Result (List Param × List ℕ) Fault
parameters_at n bytes = many_at parameter_from after_parameter n 0 bytes

-- a term whose atom is not below a number
unfoldable pub term_at : List Param → ℕ → List ℕ → Result (EqualityTerm × List ℕ) Fault
term_at params from bytes = do
  atom ← byte_at bytes
  _ ← expect (nat_le from atom.0 && is_atom params atom.0) error.Equality atom.1
  coefficient ← number_at w32 atom.1
  _ ← expect (nat_lt 0 coefficient.0) error.Equality coefficient.1
  Ok (record { atom = atom.0; coefficient = coefficient.0 }, coefficient.1)

-- terms by rising atom
abbrev pub terms_at : List Param → Many EqualityTerm
terms_at params = many_at (term_at params) after_term

-- an equality of this many terms
unfoldable pub sum_at : List Param → ℕ → List ℕ → Result (Equality × List ℕ) Fault
sum_at params count bytes = do
  _ ← expect (nat_le count 8) error.Equality bytes
  constant ← number_at w32 bytes
  terms ← terms_at params count 1 constant.1
  Ok (record { constant = constant.0; terms = record { items = terms.0 } }, terms.1)

-- no equality, where the interval says something
unfoldable pub none_at : ℕ → ℕ → List ℕ → Result (Option Equality × List ℕ) Fault
none_at low high bytes = do
  _ ← expect (not (is_full 32 low high)) error.Fact bytes
  Ok (None, bytes)

unfoldable pub some_at : List Param → ℕ → List ℕ → Result (Option Equality × List ℕ) Fault
some_at params count bytes = do
  sum ← sum_at params count bytes
  Ok (Some sum.0, sum.1)

unfoldable pub equality_at :
    List Param → ℕ → ℕ → List ℕ → Result (Option Equality × List ℕ) Fault
equality_at params low high bytes = do
  count ← byte_at bytes
  if count.0 == 255 then none_at low high count.1 else some_at params count.0 count.1

-- a fact on a register whose number is not below one
unfoldable pub fact_at : List Param → ℕ → List ℕ → Result (RegisterFact × List ℕ) Fault
fact_at params from bytes = do
  number ← byte_at bytes
  _ ← expect (nat_le from number.0 && nat_le number.0 32) error.Fact number.1
  low ← number_at w32 number.1
  high ← number_at w32 low.1
  _ ← expect (nat_le low.0 high.0) error.Fact high.1
  equality ← equality_at params low.0 high.0 high.1
  Ok (record { number = number.0; low = low.0; high = high.0; equality = equality.0 }, equality.1)

-- facts by rising register
abbrev pub facts_at : List Param → Many RegisterFact
facts_at params = many_at (fact_at params) after_fact

-- a group whose first register is not below one
unfoldable pub group_at : ℕ → List ℕ → Result (FactGroup × List ℕ) Fault
group_at from bytes = do
  register ← byte_at bytes
  _ ← expect (nat_le from register.0 && nat_le register.0 31) error.Fact register.1
  width ← byte_at register.1
  _ ← expect (is_width width.0) error.Fact width.1
  registers ← byte_at width.1
  _ ← expect (is_group register.0 registers.0) error.Fact registers.1
  rest ← zero_at error.Fact registers.1
  Ok (record { register = register.0; width = width.0; registers = registers.0 }, rest)

unfoldable pub vector_at : Vlen → ℕ → List ℕ → Result (VectorFact × List ℕ) Fault
vector_at vlen from bytes = do
  group ← group_at from bytes
  count ← number_at w16 group.1
  _ ← expect (is_count vlen group.0.width group.0.registers count.0) error.Fact count.1
  rest ← zeros_at error.Fact count.1
  low ← number_at w32 rest
  high ← number_at w32 low.1
  _ ← expect (is_interval group.0.width low.0 high.0) error.Fact high.1
  Ok (
    record {
      register = group.0.register;
      width = group.0.width;
      registers = group.0.registers;
      count = count.0;
      low = low.0;
      high = high.0;
    },
    high.1,
  )

-- facts on groups, each behind the one before it
abbrev pub vectors_at : Vlen → Many VectorFact
vectors_at vlen = many_at (vector_at vlen) after_vector

-- a budget of one register
unfoldable pub single_at : List ℕ → Result (Budget × List ℕ) Fault
single_at bytes = do
  constant ← number_at w32 bytes
  factor ← number_at w32 constant.1
  register ← byte_at factor.1
  _ ← expect (is_budget factor.0 register.0) error.Budget register.1
  Ok (
    record {
      constant = constant.0;
      factor = factor.0;
      register = register.0;
      second_factor = 0;
      second_register = 0;
    },
    register.1,
  )

-- a budget that may have a second register
unfoldable pub double_at : List ℕ → Result (Budget × List ℕ) Fault
double_at bytes = do
  constant ← number_at w32 bytes
  factor ← number_at w32 constant.1
  second ← number_at w32 factor.1
  _ ← expect ((second.0 == 0) || nat_lt 0 factor.0) error.Budget second.1
  register ← byte_at second.1
  _ ← expect (is_budget factor.0 register.0) error.Budget register.1
  other ← byte_at register.1
  _ ← expect (is_second factor.0 register.0 second.0 other.0) error.Budget other.1
  Ok (
    record {
      constant = constant.0;
      factor = factor.0;
      register = register.0;
      second_factor = second.0;
      second_register = other.0;
    },
    other.1,
  )

unfoldable pub budget_at : Version → List ℕ → Result (Budget × List ℕ) Fault
budget_at V1 bytes = single_at bytes
budget_at V2 bytes = double_at bytes

-- a vector type that is known, or zeros
unfoldable pub is_vtype : ℕ → ℕ → Bool
is_vtype known vtype = if known == 1 then is_some (vtype_of vtype) else vtype == 0

unfoldable pub vtype_at : List ℕ → Result (Option ℕ × List ℕ) Fault
vtype_at bytes = do
  known ← byte_at bytes
  _ ← expect (nat_le known.0 1) error.Fact known.1
  vtype ← byte_at known.1
  _ ← expect (is_vtype known.0 vtype.0) error.Fact vtype.1
  Ok (if known.0 == 1 then Some vtype.0 else None, vtype.1)

-- how many facts there are: at most 32
unfoldable pub few_at : List ℕ → Result (ℕ × List ℕ) Fault
few_at bytes = do
  count ← byte_at bytes
  _ ← expect (nat_le count.0 32) error.TooMany count.1
  Ok (count.0, count.1)

-- how many orders there are: version 1 has zeros in their place
unfoldable pub order_count_at : Version → List ℕ → Result (ℕ × List ℕ) Fault
order_count_at V1 bytes = do
  one ← zero_at error.TooMany bytes
  two ← zero_at error.TooMany one
  Ok (0, two)
order_count_at V2 bytes = few_at bytes

-- how many facts there are on registers, on groups, and of orders
unfoldable pub counts_at : Version → List ℕ → Result (Counts × List ℕ) Fault
counts_at version bytes = do
  registers ← few_at bytes
  vectors ← few_at registers.1
  orders ← order_count_at version vectors.1
  rest ← zero_at error.TooMany orders.1
  Ok (record { registers = registers.0; vectors = vectors.0; orders = orders.0 }, rest)

-- an order whose greater register is not below a number
unfoldable pub order_at : List RegisterFact → ℕ → List ℕ → Result (OrderFact × List ℕ) Fault
order_at facts from bytes = do
  greater ← byte_at bytes
  _ ← expect (is_greater facts from greater.0) error.Order greater.1
  lesser ← byte_at greater.1
  _ ← expect (is_lesser facts greater.0 lesser.0) error.Order lesser.1
  Ok (record { greater = greater.0; lesser = lesser.0 }, lesser.1)

-- orders by rising greater register
abbrev pub orders_at : List RegisterFact → Many OrderFact
orders_at facts = many_at (order_at facts) after_order

-- a block whose start is not below an address
unfoldable pub block_at :
    Version → Vlen → List Param → ℕ → List ℕ → Result (Block × List ℕ) Fault
block_at version vlen params from bytes = do
  start ← number_at w32 bytes
  _ ← expect (nat_le from start.0 && (start.0 % 4 == 0)) error.BlockOrder start.1
  budget ← budget_at version start.1
  vtype ← vtype_at budget.1
  counts ← counts_at version vtype.1
  registers ← facts_at params counts.0.registers 1 counts.1
  vectors ← vectors_at vlen counts.0.vectors 0 registers.1
  orders ← orders_at registers.0 counts.0.orders 1 vectors.1
  _ ← expect (are_free registers.0) error.Equality orders.1
  Ok (
    record {
      start = start.0;
      budget = budget.0;
      vtype = vtype.0;
      registers = record { items = registers.0 };
      vectors = record { items = vectors.0 };
      orders = record { items = orders.0 };
    },
    orders.1,
  )

-- blocks by rising start
abbrev pub blocks_at : Version → Vlen → List Param → Many Block
blocks_at version vlen params = many_at (block_at version vlen params) after_block

unfoldable pub count_at : List ℕ → Result (ℕ × List ℕ) Fault
count_at bytes = do
  count ← number_at w16 bytes
  _ ← expect (nat_le count.0 1024) error.TooMany count.1
  rest ← zeros_at error.TooMany count.1
  Ok (count.0, rest)

-- what stands before the blocks
unfoldable pub front_at : List ℕ → Result (Front × List ℕ) Fault
front_at bytes = do
  header ← header_at bytes
  params ← parameters_at 8 header.1
  parameters ← ok_or (parameters_of params.0) (fault_of error.Parameter params.1)
  count ← count_at params.1
  Ok (
    record {
      version = header.0.0;
      vlen = header.0.1;
      parameters = parameters;
      count = count.0;
    },
    count.1,
  )

-- a number of blocks behind a front
abbrev pub blocks_behind : Front → ℕ → List ℕ → Result (List Block × List ℕ) Fault
blocks_behind front count = blocks_at front.version front.vlen front.parameters count 0

-- no bytes
abbrev pub nothing_at : List ℕ → Result (Unit {0}) Fault
nothing_at [] = Ok tt
nothing_at (byte ∷ rest) = Err (fault_of error.TrailingBytes rest)

-- the certificate that is spelled by all of the bytes, or the first fault in them
unfoldable pub reading_of : List ℕ → Result CertificateView Fault
reading_of bytes = do
  front ← front_at bytes
  blocks ← blocks_behind front.0 front.0.count front.1
  _ ← nothing_at blocks.1
  Ok (record {
    version = front.0.version;
    vlen = front.0.vlen;
    parameters = front.0.parameters;
    blocks = blocks.0;
  })

-- the same, with the error alone
unfoldable pub certificate_of : List ℕ → Result CertificateView CertError
certificate_of bytes = result_map_both (λ c. c) (λ fault. fault.error) (reading_of bytes)

-- ---- where the first fault is

-- the front and at most a number of the blocks
unfoldable pub first_blocks : ℕ → List ℕ → Result (List Block × List ℕ) Fault
first_blocks most bytes = do
  front ← front_at bytes
  blocks_behind front.0 (min most front.0.count) front.1

-- The first fault lies in this block: those before it are read, and it is not.
pub record LiesIn (bytes : List ℕ) (block : ℕ) : Type 0 where
  pub before : IsOk (first_blocks block bytes)
  pub with_it : IsErr (first_blocks (block + 1) bytes)

-- the block of the first fault, and none exactly where it lies in no block
abbrev pub IsFaultBlock : List ℕ → Option ℕ → Type 0
IsFaultBlock bytes None = (block : ℕ) → ¬ (LiesIn bytes block)
IsFaultBlock bytes (Some block) = LiesIn bytes block

-- The first fault lies in this one of the blocks behind a front.
pub record StopsIn (front : Front) (bytes : List ℕ) (fault : Fault) (block : ℕ) : Type 0 where
  pub among : block < front.count
  pub before : IsOk (blocks_behind front block bytes)
  pub with_it : blocks_behind front (block + 1) bytes ≡ Err fault

-- All blocks behind a front are read, up to these bytes, and if any are kept all of them are.
abbrev pub AreRead : Front → List ℕ → Option (List Block) → List ℕ → Type 0
AreRead front bytes kept rest =
    (blocks : List Block) × (blocks_behind front front.count bytes ≡ Ok (blocks, rest))
    × IfSome kept (λ items. items ≡ blocks)

-- what a fault and its block say of bytes
abbrev pub refusal_of : List ℕ → Fault → Option ℕ → CertRefusal
refusal_of bytes fault block = record {
  error = fault.error;
  block = block;
  place = Some (length bytes - fault.left);
}

-- the refusal where memory ran out
abbrev pub out_of_memory : CertRefusal
out_of_memory = record { error = error.NoMemory; block = None; place = None }

-- The error is known when `place` bytes are read: from these it follows, and from one less it does
-- not. Bytes that end too early are read to their end.
pub record IsFaultPlace (bytes : List ℕ) (e : CertError) (place : ℕ) : Type 0 where
  pub inside : place ≤ length bytes
  pub told : certificate_of (take place bytes) ≡ Err e
  pub whole : e ≡ error.Short → place ≡ length bytes
  pub before : e ≢ error.Short → ¬ (certificate_of (take (place - 1) bytes) ≡ Err e)

-- Why bytes spell no certificate, in which block and where.
pub record IsEvidence (bytes : List ℕ) (e : CertError) (refusal : CertRefusal) : Type 0 where
  pub error : refusal.error ≡ e
  pub block : IsFaultBlock bytes refusal.block
  pub place : IsSomeAnd refusal.place (IsFaultPlace bytes e)

-- The first fault is the answer, with its evidence, and want of memory only where there is none.
abbrev pub IsRefusal : List ℕ → CertRefusal → Type 0
IsRefusal bytes refusal = MatchResult (certificate_of bytes) (λ c. refusal ≡ out_of_memory)
    (λ e. IsEvidence bytes e refusal)
