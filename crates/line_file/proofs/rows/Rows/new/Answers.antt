use Rattle.line_file.proofs.Reading.{at-start}
use Rattle.line_file.proofs.rows.Rows.new.Goals as goal

pub returns : goal.returns
returns c =
    let fr = c.from_reader-reader.ensures in
    at-start c.from_reader-reader.result c.drop_mark.result.now c.args.text.now fr.source fr.state c.drop_mark.ensures
