use Rattle.blind_tree.proofs.Recipients.{are_recipients, named_alike}
use Rattle.blind_tree.proofs.laws.recipients_are_the_sender_and_who_sees.Goals as goal

pub returns : goal.returns
returns c = record {
  recipients = are_recipients;
  sender = λ hosts sender p name apart sends. named_alike hosts p sender name apart sends;
}
