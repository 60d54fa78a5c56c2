use Rattle.txs_disasm.specs.Listing.{body_lines, cell_line, constant_line, numbered}
use Rattle.txs_disasm.specs.declared.lines.BodyKind.TheVariants.{Function, Thread}
use Rattle.txs_disasm.proofs.ListingLemmas.{Appends-listing, IsCut-first, IsCut-second, IsCut-third, IsCut-fourth, IsCut-last}
use Rattle.txs_disasm.proofs.SentLemmas.{on_err, err_maps, ok_maps}
use Rattle.txs_disasm.proofs.disasm.write_listing.Goals as goal

pub returns-in_err-list_cells-clause-cut : goal.returns-in_err-list_cells-clause-cut
returns-in_err-list_cells-clause-cut g c =
    let code = c.args.code.now in
    let w = g.W.Write.contents in
    on_err _
    (IsCut-first (w c.args.writer.now) (w c.list_cells.new.writer)
    (numbered cell_line 0 code.cells) (numbered constant_line 0 code.constants) (numbered (body_lines Function) 0 code.functions) (numbered (body_lines Thread) 0 code.threads)
    c.new-page.result.bytes.items c.new-page.ensures (rw c.cells.ensures at c.in_err-list_cells.ensures.cut))

pub returns-in_err-list_constants-clause-cut : goal.returns-in_err-list_constants-clause-cut
returns-in_err-list_constants-clause-cut g c =
    let code = c.args.code.now in
    let w = g.W.Write.contents in
    let one = rw c.cells.ensures at c.in_ok-list_cells.ensures.sent in
    on_err _
    (IsCut-second (w c.args.writer.now) (w c.list_cells.new.writer) (w c.list_constants.new.writer) (w c.list_constants.new.writer)
    (numbered cell_line 0 code.cells) (numbered constant_line 0 code.constants) (numbered (body_lines Function) 0 code.functions) (numbered (body_lines Thread) 0 code.threads)
    c.new-page.result.bytes.items c.list_cells.new.page.bytes.items c.list_constants.new.page.bytes.items c.list_constants.new.page.bytes.items
    c.new-page.ensures one (rw c.constants.ensures at c.in_err-list_constants.ensures.cut))

pub returns-in_err-list_bodies-clause-cut : goal.returns-in_err-list_bodies-clause-cut
returns-in_err-list_bodies-clause-cut g c =
    let code = c.args.code.now in
    let w = g.W.Write.contents in
    let one = rw c.cells.ensures at c.in_ok-list_cells.ensures.sent in
    let two = rw c.constants.ensures at c.in_ok-list_constants.ensures.sent in
    on_err _
    (IsCut-third (w c.args.writer.now) (w c.list_cells.new.writer) (w c.list_constants.new.writer) (w c.list_bodies.new.writer)
    (numbered cell_line 0 code.cells) (numbered constant_line 0 code.constants) (numbered (body_lines Function) 0 code.functions) (numbered (body_lines Thread) 0 code.threads)
    c.new-page.result.bytes.items c.list_cells.new.page.bytes.items c.list_constants.new.page.bytes.items c.list_bodies.new.page.bytes.items
    c.new-page.ensures one two (rw c.functions.ensures at c.in_err-list_bodies.ensures.cut))

pub returns-in_err-list_bodies-2-clause-cut : goal.returns-in_err-list_bodies-2-clause-cut
returns-in_err-list_bodies-2-clause-cut g c =
    let code = c.args.code.now in
    let w = g.W.Write.contents in
    let one = rw c.cells.ensures at c.in_ok-list_cells.ensures.sent in
    let two = rw c.constants.ensures at c.in_ok-list_constants.ensures.sent in
    let three = rw c.functions.ensures at c.in_ok-list_bodies.ensures.sent in
    on_err _
    (IsCut-fourth (w c.args.writer.now) (w c.list_cells.new.writer) (w c.list_constants.new.writer) (w c.list_bodies.new.writer)
    (numbered cell_line 0 code.cells) (numbered constant_line 0 code.constants) (numbered (body_lines Function) 0 code.functions) (numbered (body_lines Thread) 0 code.threads)
    c.new-page.result.bytes.items c.list_cells.new.page.bytes.items c.list_constants.new.page.bytes.items c.list_bodies.new.page.bytes.items
    c.new-page.ensures one two three (w c.list_bodies-2.new.writer) (rw c.threads.ensures at c.in_err-list_bodies-2.ensures.cut))

pub returns-clause-whole : goal.returns-clause-whole
returns-clause-whole g c =
    let code = c.args.code.now in
    let w = g.W.Write.contents in
    let one = rw c.cells.ensures at c.in_ok-list_cells.ensures.sent in
    let two = rw c.constants.ensures at c.in_ok-list_constants.ensures.sent in
    let three = rw c.functions.ensures at c.in_ok-list_bodies.ensures.sent in
    let four = rw c.threads.ensures at c.in_ok-list_bodies-2.ensures.sent in
    ok_maps c.send.result
    (Appends-listing (w c.args.writer.now) (w c.list_cells.new.writer) (w c.list_constants.new.writer) (w c.list_bodies.new.writer)
    (numbered cell_line 0 code.cells) (numbered constant_line 0 code.constants) (numbered (body_lines Function) 0 code.functions) (numbered (body_lines Thread) 0 code.threads)
    c.new-page.result.bytes.items c.list_cells.new.page.bytes.items c.list_constants.new.page.bytes.items c.list_bodies.new.page.bytes.items
    c.new-page.ensures one two three (w c.list_bodies-2.new.writer) (w c.send.new.writer) c.list_bodies-2.new.page.bytes.items four)
    c.send.ensures.whole

pub returns-clause-cut : goal.returns-clause-cut
returns-clause-cut g c =
    let code = c.args.code.now in
    let w = g.W.Write.contents in
    let one = rw c.cells.ensures at c.in_ok-list_cells.ensures.sent in
    let two = rw c.constants.ensures at c.in_ok-list_constants.ensures.sent in
    let three = rw c.functions.ensures at c.in_ok-list_bodies.ensures.sent in
    let four = rw c.threads.ensures at c.in_ok-list_bodies-2.ensures.sent in
    err_maps c.send.result
    (IsCut-last (w c.args.writer.now) (w c.list_cells.new.writer) (w c.list_constants.new.writer) (w c.list_bodies.new.writer)
    (numbered cell_line 0 code.cells) (numbered constant_line 0 code.constants) (numbered (body_lines Function) 0 code.functions) (numbered (body_lines Thread) 0 code.threads)
    c.new-page.result.bytes.items c.list_cells.new.page.bytes.items c.list_constants.new.page.bytes.items c.list_bodies.new.page.bytes.items
    c.new-page.ensures one two three (w c.list_bodies-2.new.writer) (w c.send.new.writer) c.list_bodies-2.new.page.bytes.items four)
    c.send.ensures.cut
