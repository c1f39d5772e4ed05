-- What an accepted image is made of may cross threads, part by part.
use denote.RattleType.{RattleType}
use denote.Param.Send.{IsSend, IsSync, sendable}
use Rattle.std.specs.contracts.alloc.Global as heap
use Rattle.std.specs.contracts.impls.GlobalAllocator.TheImpl.{ghosts}
use Rattle.std.proofs.Crossing.{Arc-send, crosses}
use Rattle.arrayvec.specs.contracts.array_vec.ArrayVec as array_vec
use Rattle.block_checker.specs.contracts.accepted.Accepted as accepted
use Rattle.cert_note.specs.contracts.values.Block as block
use Rattle.cert_note.specs.contracts.values.Certificate as certificate
use Rattle.cert_note.specs.contracts.values.Contents as contents
use Rattle.cert_note.specs.contracts.values.Equality as equality
use Rattle.cert_note.specs.contracts.values.EqualityTerm as term
use Rattle.cert_note.specs.contracts.values.OrderFact as order
use Rattle.cert_note.specs.contracts.values.RegisterFact as register
use Rattle.cert_note.specs.contracts.values.VectorFact as vector
use Rattle.elf_image.specs.contracts.image.Image as image
use Rattle.elf_image.specs.contracts.segment.Segment as segment
use Rattle.region_mem.specs.contracts.parameter.Parameters as parameters
use Rattle.rvvbox_c.specs.Shared.{shared_row}
use Rattle.vreg_groups.specs.contracts.vector_length.Vlen as vlen

pub vec_send : (T N A : RattleType) → IsSend T → IsSend A → IsSend (array_vec.the_row T N A)
vec_send T N A s a = search sendable depth 20

pub vec_sync : (T N A : RattleType) → IsSync T → IsSync A → IsSync (array_vec.the_row T N A)
vec_sync T N A s a = search sendable depth 20

pub term_send : IsSend term.the_row
term_send = search sendable depth 20

pub term_sync : IsSync term.the_row
term_sync = search sendable depth 20

pub equality_send : IsSend equality.the_row
equality_send = search (sendable, crosses, vec_send, term_send) depth 20

pub equality_sync : IsSync equality.the_row
equality_sync = search (sendable, crosses, vec_sync, term_sync) depth 20

pub register_send : IsSend register.the_row
register_send = search (sendable, crosses, equality_send) depth 20

pub register_sync : IsSync register.the_row
register_sync = search (sendable, crosses, equality_sync) depth 20

pub vector_send : IsSend vector.the_row
vector_send = search sendable depth 20

pub vector_sync : IsSync vector.the_row
vector_sync = search sendable depth 20

pub order_send : IsSend order.the_row
order_send = search sendable depth 20

pub order_sync : IsSync order.the_row
order_sync = search sendable depth 20

pub block_send : IsSend block.the_row
block_send = search (sendable, crosses, vec_send, register_send, vector_send, order_send) depth 20

pub block_sync : IsSync block.the_row
block_sync = search (sendable, crosses, vec_sync, register_sync, vector_sync, order_sync) depth 20

pub parameters_send : IsSend parameters.the_row
parameters_send = search (sendable, crosses) depth 20

pub parameters_sync : IsSync parameters.the_row
parameters_sync = search (sendable, crosses) depth 20

pub contents_send : IsSend (contents.the_field heap.the_row ghosts).row
contents_send = search (sendable, crosses, block_send, parameters_send) depth 20

pub contents_sync : IsSync (contents.the_field heap.the_row ghosts).row
contents_sync = search (sendable, crosses, block_sync, parameters_sync) depth 20

pub certificate_send : IsSend (certificate.the_field heap.the_row ghosts).row
certificate_send = let a : IsSend (contents.the_field heap.the_row ghosts).row = contents_send in search sendable depth 20

pub certificate_sync : IsSync (certificate.the_field heap.the_row ghosts).row
certificate_sync = let a : IsSync (contents.the_field heap.the_row ghosts).row = contents_sync in search sendable depth 20

pub segment_send : IsSend (segment.the_field heap.the_row ghosts).row
segment_send = search (sendable, crosses) depth 20

pub segment_sync : IsSync (segment.the_field heap.the_row ghosts).row
segment_sync = search (sendable, crosses) depth 20

pub image_send : IsSend (image.the_field heap.the_row ghosts).row
image_send = search (sendable, crosses, segment_send) depth 20

pub image_sync : IsSync (image.the_field heap.the_row ghosts).row
image_sync = search (sendable, crosses, segment_sync) depth 20

pub vlen_send : IsSend vlen.the_row
vlen_send = search sendable depth 20

pub vlen_sync : IsSync vlen.the_row
vlen_sync = search sendable depth 20

pub accepted_send : IsSend (accepted.the_row heap.the_row ghosts)
accepted_send = let a : IsSend (image.the_field heap.the_row ghosts).row = image_send in let b : IsSend (certificate.the_field heap.the_row ghosts).row = certificate_send in search sendable depth 20

pub accepted_sync : IsSync (accepted.the_row heap.the_row ghosts)
accepted_sync = let a : IsSync (image.the_field heap.the_row ghosts).row = image_sync in let b : IsSync (certificate.the_field heap.the_row ghosts).row = certificate_sync in search sendable depth 20

pub shared_send : IsSend shared_row
shared_send = Arc-send (accepted.the_row heap.the_row ghosts) accepted_send accepted_sync
