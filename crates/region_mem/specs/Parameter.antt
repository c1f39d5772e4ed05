-- What a kernel's eight parameters say, where its buffers lie, and which arguments match them.
use Rattle.std.specs.Prelude.{◌≡◌, ℕ, ◌+◌, ◌*◌, ◌-◌, ◌/◌, ◌==◌, ◌++◌, codes, Bool, true, false, ◌&&◌, not, nat_le, List, length, take, sum_by, position, Option, Some, None, Result, Ok, Err, if◌then◌else◌}
use Rattle.std.specs.List.{list_all, zip, slice_get}
use Rattle.std.specs.Option.{option_map, option_and_then, option_or}
use Rattle.std.specs.Fmt.{decimal}
use Rattle.region_mem.specs.Words.{Param, ArgError, Arg, WrongKind, ScalarOutOfInterval, WrongSize, BUFFERS, MAX_BUFFER_SIZE}
use Rattle.region_mem.specs.Words.{PAGE_SIZE}

-- an argument, with the bytes of a buffer
abbrev pub Argument : Type 0
Argument = Arg (List ℕ)

-- A scalar's interval is not empty, and a buffer is not too large.
unfoldable pub is_valid : Param → Bool
is_valid Param.None = true
is_valid (Param.Scalar lo hi) = nat_le lo hi
is_valid (Param.Buffer mode size) = nat_le size MAX_BUFFER_SIZE

-- the parameters, where each is valid
unfoldable pub parameters_of : List Param → Option (List Param)
parameters_of params = if list_all is_valid params then Some params else None

-- from a buffer's address to the next one's: its size rounded up to whole pages, and one page more
unfoldable pub room_of : Param → ℕ
room_of Param.None = 0
room_of (Param.Scalar lo hi) = 0
room_of (Param.Buffer mode size) =
    (size + PAGE_SIZE - 1) / PAGE_SIZE * PAGE_SIZE + PAGE_SIZE

unfoldable pub is_buffer : Param → Bool
is_buffer Param.None = false
is_buffer (Param.Scalar lo hi) = false
is_buffer (Param.Buffer mode size) = true

-- The buffers lie one after another.
unfoldable pub address_of : ℕ → List Param → Option ℕ
address_of place params =
    option_and_then (λ param.
    if is_buffer param then Some (BUFFERS + sum_by room_of (take place params)) else None)
    (slice_get params place)

-- The argument is of another kind than the parameter.
unfoldable pub is_wrong_kind : Param × Argument → Bool
is_wrong_kind (Param.None, Arg.None) = false
is_wrong_kind (Param.Scalar lo hi, Arg.Scalar value) = false
is_wrong_kind (Param.Buffer mode size, Arg.Buffer bytes) = false
is_wrong_kind other = true

-- The argument is a scalar outside the parameter's interval.
unfoldable pub is_out_of_interval : Param × Argument → Bool
is_out_of_interval (Param.Scalar lo hi, Arg.Scalar value) =
    not (nat_le lo value && nat_le value hi)
is_out_of_interval other = false

-- The argument is a buffer of another size than the parameter's.
unfoldable pub is_wrong_size : Param × Argument → Bool
is_wrong_size (Param.Buffer mode size, Arg.Buffer bytes) = not (length bytes == size)
is_wrong_size other = false

-- what is wrong with the arguments: a kind before an interval before a size, and the
-- lowest place of each
unfoldable pub argument_error : List Param → List Argument → Option ArgError
argument_error params args =
    let pairs = zip params args in
    option_or (option_map WrongKind (position is_wrong_kind pairs))
    (option_or (option_map ScalarOutOfInterval (position is_out_of_interval pairs))
    (option_map WrongSize (position is_wrong_size pairs)))

-- the answer of a test that found this error, or none
unfoldable pub refused_by : {E : Type 0} → Option E → Result (Unit {0}) E
refused_by None = Ok tt
refused_by (Some error) = Err error

-- The arguments are what the parameters ask for.
abbrev pub AreArguments : List Param → List Argument → Type 0
AreArguments params args = argument_error params args ≡ None

-- how many bytes an argument brings
unfoldable pub size_of : Argument → ℕ
size_of Arg.None = 0
size_of (Arg.Scalar value) = 0
size_of (Arg.Buffer bytes) = length bytes

-- what is wrong with an argument, in words
abbrev pub error_text : ArgError → List ℕ
error_text (WrongKind place) =
    codes "argument " ++ (decimal place ++ codes " is of the wrong kind")
error_text (ScalarOutOfInterval place) =
    codes "argument " ++ (decimal place ++ codes " is out of its interval")
error_text (WrongSize place) =
    codes "argument " ++ (decimal place ++ codes " is a buffer of the wrong size")
