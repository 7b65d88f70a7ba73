-- `load_links::link_ok` meets its contract: nodes and starts have links.
use Rattle.load_links.proofs.LinkLaws.{node_link, start_link, other_link}
use Rattle.load_links.proofs.link_ok.Goals as goal

pub returns-in-4 : goal.returns-in-4
returns-in-4 c = search node_link

pub returns-in-5 : goal.returns-in-5
returns-in-5 c = search start_link

pub returns-in_default : goal.returns-in_default
returns-in_default c = search other_link
