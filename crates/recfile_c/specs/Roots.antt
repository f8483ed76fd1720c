-- A handle on the heap, or none.
use Rattle.std.specs.Prelude.{◌^◌, Bool, true, ◌&&◌, nat_lt, Option, Some, None, is_some, IsTrue}
use mathlib.Core.Bool.{Bool-set}
use Rattle.std.specs.Coded.{Coded, coded_option, prop_coded}
use Rattle.std.specs.Box.Ownership.{box_owns}
use Rattle.std.specs.contracts.impls.GlobalAllocator.TheImpl.{ghosts}
use base.Fml.{Fml, ftrue}
use denote.RawPtr.{Ptr, block_ptr, null_ptr}
use Rattle.recfile_c.specs.contracts.handle.RecFile as handle
use Rattle.recfile_c.specs.declared.handle.RecFile.{RecFile}

abbrev pub coded_root : Coded (Option RecFile)
coded_root = coded_option handle.the_row.coded

-- the memory of the handle, where there is one
abbrev pub root_owns : Ptr → Option RecFile → Fml
root_owns p None = ftrue
root_owns p (Some x) = box_owns (ghosts.dealloc_token (record { memory = record { seal = tt } })) handle.the_row p x

-- a pointer that C hands in is null, or a handle's
abbrev pub is_handed : Ptr → Option RecFile → Bool
is_handed (block_ptr b o) value = is_some value && nat_lt o (2 ^ 63)
is_handed null_ptr value = true

abbrev pub IsHanded : Ptr → Option RecFile → Type 0
IsHanded p value = IsTrue (is_handed p value)

abbrev pub coded_handed : (p : Ptr) (value : Option RecFile) → Coded (IsHanded p value)
coded_handed p value = prop_coded (Bool-set (is_handed p value) true)
