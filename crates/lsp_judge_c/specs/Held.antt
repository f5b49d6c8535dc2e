-- What a handle owns: an open one the box, a closed one nothing.
use Rattle.std.specs.Prelude.{Bool, true, false, Option, None, Some}
use Rattle.std.specs.Coded.{Coded, coded_option}
use base.Fml.{Fml, ftrue, ffalse}
use denote.RawPtr.{Ptr}
use Rattle.std.specs.Box.Ownership.{box_owns}
use Rattle.std.specs.contracts.impls.GlobalAllocator.TheImpl.{ghosts}
use Rattle.std.specs.declared.alloc.Global.{Global}
use Rattle.libc.specs.Heap.{chunk}
use Rattle.lsp_judge_c.specs.declared.session.Session.{Session}
use Rattle.lsp_judge_c.specs.contracts.session.Session.{the_row}

abbrev pub value_code : Coded (Option Session)
value_code = coded_option the_row.coded

abbrev pub held : Bool → Ptr → Option Session → Fml
held true p (Some x) = box_owns (λ ty ptr. chunk ty ptr) the_row p x
held true p None = ffalse
held false p (Some x) = ffalse
held false p None = ftrue
