use Rattle.std.proofs.Common.{◌≡◌, ◌+◌, ◌*◌, drop}
use Rattle.std.specs.List.{list_all, list_any}
use Rattle.serde_json.specs.View.{view, items_view, members_view}
use Rattle.lsp_model.specs.Fits.{fits, fits_member, is_strict, member_in, each_item, each_member}
use Rattle.lsp_model.proofs.fitting.+fits.Given as goal

abbrev pub decreases-fits : goal.decreases-fits
decreases-fits l = l.levels * 3

abbrev pub decreases-parts_fit : goal.decreases-parts_fit
decreases-parts_fit l = l.levels * 3 + 2

abbrev pub decreases-each_fits : goal.decreases-each_fits
decreases-each_fits l = l.levels * 3 + 1

abbrev pub decreases-each_member_fits : goal.decreases-each_member_fits
decreases-each_member_fits l = l.levels * 3 + 1

abbrev pub decreases-fits_any : goal.decreases-fits_any
decreases-fits_any l = l.levels * 3 + 1

abbrev pub decreases-members_fit : goal.decreases-members_fit
decreases-members_fit l = l.levels * 3 + 1

-- what is left fits as all does
abbrev pub invariant-each_fits-loop-item : goal.invariant-each_fits-loop-item
invariant-each_fits-loop-item l =
    each_item (fits l.types l.mode l.levels l.at) (items_view l.items)
    ≡ each_item (fits l.types l.mode l.levels l.at) (items_view (drop l.item-index l.items))

abbrev pub invariant-each_member_fits-loop-member : goal.invariant-each_member_fits-loop-member
invariant-each_member_fits-loop-member l =
    each_member (fits l.types l.mode l.levels l.at) (members_view l.fn.members.entries)
    ≡ each_member (fits l.types l.mode l.levels l.at) (members_view l.member-iterator)

abbrev pub invariant-fits_any-loop-case : goal.invariant-fits_any-loop-case
invariant-fits_any-loop-case l =
    list_any (λ at. fits l.types l.mode l.levels at (view l.value)) l.cases
    ≡ list_any (λ at. fits l.types l.mode l.levels at (view l.value)) (drop l.case-index l.cases)

abbrev pub invariant-members_fit-loop-member : goal.invariant-members_fit-loop-member
invariant-members_fit-loop-member l =
    list_all (λ m. fits_member (fits l.types l.mode l.levels) m (member_in (is_strict l.mode) m (view l.value)))
    l.members
    ≡ list_all (λ m. fits_member (fits l.types l.mode l.levels) m (member_in (is_strict l.mode) m (view l.value)))
    (drop l.member-index l.members)
