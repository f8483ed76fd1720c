-- What three noted calls of a disk in files say. This module is private to the proofs of this crate.
use Rattle.std.proofs.Common.{◌≡◌, ◌≢◌, [], ◌∷◌, true, false, refl, ap, arith, get_or, set}
use Rattle.page_journal.specs.Files.{PageFile, Files}
use Rattle.page_journal.specs.FileEvents.{NotedMayLeave, all_noted}
use Rattle.page_journal.specs.Examples.{without_side_file, old_file, pages_of_two, noted_write_and_sync, three_noted}

pub first_lost : NotedMayLeave (without_side_file old_file) (three_noted true) (without_side_file (pages_of_two 1 9))
first_lost = (without_side_file old_file, (without_side_file old_file, (without_side_file old_file, refl, (record { page = 1 ∷ []; main = refl; fresh = refl; side = refl; commits = refl }, tt)), refl), (record { page = 9 ∷ []; main = refl; fresh = refl; side = refl; commits = refl }, tt))

pub last_left_out : all_noted (without_side_file old_file) (noted_write_and_sync true) ≢ without_side_file (pages_of_two 7 9)
last_left_out is = omega (arith, ap (λ (f : Files). get_or (get_or f.main.pages 1 []) 0 0) is)

pub sync_told_as_done : NotedMayLeave (without_side_file old_file) (three_noted false) (without_side_file (pages_of_two 1 9)) → ⊥
sync_told_as_done left =
    let page = left.2.0.page in
    let there : 1 ≡ get_or (get_or (set left.0.main.pages 1 page) 0 []) 0 0 = ap (λ (m : PageFile). get_or (get_or m.pages 0 []) 0 0) left.2.0.main in
    let kept : get_or (get_or (set left.0.main.pages 1 page) 0 []) 0 0 ≡ 7 = ap (λ (m : PageFile). get_or (get_or (set m.pages 1 page) 0 []) 0 0) left.1.2.1 in
    omega (arith, there, kept)
