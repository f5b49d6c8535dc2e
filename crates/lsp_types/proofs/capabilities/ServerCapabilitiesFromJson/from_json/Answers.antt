use Rattle.lsp_types.proofs.ReadLemmas.{◌ends◌, ◌then◌}
use Rattle.lsp_types.proofs.capabilities.ServerCapabilitiesFromJson.from_json.Goals as goal

pub returns-in-Ok : goal.returns-in-Ok
returns-in-Ok c = c.new.ensures then c.optional.ensures then c.number_or.ensures then c.optional-2.ensures
    then c.optional-3.ensures then c.offered.ensures then c.optional-4.ensures then c.offered-2.ensures then
    c.offered-3.ensures then c.offered-4.ensures then c.offered-5.ensures then c.offered-6.ensures then
    c.offered-7.ensures then c.offered-8.ensures then c.options.ensures then c.optional-5.ensures then
    c.optional-6.ensures then c.offered-9.ensures then c.offered-10.ensures then c.offered-11.ensures then
    c.optional-7.ensures then c.options-2.ensures then c.offered-12.ensures then c.offered-13.ensures then
    c.optional-8.ensures then c.offered-14.ensures then c.offered-15.ensures then c.optional-9.ensures then
    c.offered-16.ensures then c.offered-17.ensures then c.offered-18.ensures then c.offered-19.ensures then
    c.optional-10.ensures then c.offered-20.ensures then c.optional-11.ensures then c.optional-12.ensures then
    c.rest.ensures ends c.in-Ok.ensures

pub returns-in-Err : goal.returns-in-Err
returns-in-Err c fits it one = (c.new.ensures then c.optional.ensures then c.number_or.ensures then
    c.optional-2.ensures then c.optional-3.ensures then c.offered.ensures then c.optional-4.ensures then
    c.offered-2.ensures then c.offered-3.ensures then c.offered-4.ensures then c.offered-5.ensures then
    c.offered-6.ensures then c.offered-7.ensures then c.offered-8.ensures then c.options.ensures then
    c.optional-5.ensures then c.optional-6.ensures then c.offered-9.ensures then c.offered-10.ensures then
    c.offered-11.ensures then c.optional-7.ensures then c.options-2.ensures then c.offered-12.ensures then
    c.offered-13.ensures then c.optional-8.ensures then c.offered-14.ensures then c.offered-15.ensures then
    c.optional-9.ensures then c.offered-16.ensures then c.offered-17.ensures then c.offered-18.ensures then
    c.offered-19.ensures then c.optional-10.ensures then c.offered-20.ensures then c.optional-11.ensures then
    c.optional-12.ensures then c.rest.ensures ends c.in-Err.ensures) fits _ one
